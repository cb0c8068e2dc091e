-- How the links of buckets go on where a node comes or goes.
use Rattle.std.proofs.Common.{◌≡◌, ◌≢◌, ℕ, ◌+◌, ◌-◌, ◌<◌, ◌≤◌, ◌%◌, List, inl, inr, length, get_or, ap, sym, subst, ◌∙◌, refl, [], ◌∷◌, ◌++◌, set, arith, get_or-set_same, get_or-set_other, length-set}
use Rattle.std.proofs.lemmas.Bool.{cases_eq, cases_lt}
use Rattle.std.proofs.lemmas.List.{get_or_append_left, get_or_at, length_push}
use Rattle.esc_nodes.specs.TableInside.{IsEnd, AreLinked, bucket_at}

IsEnd-alike : (f g : ℕ → ℕ) (b c limit end other : ℕ) → ((k : ℕ) → k < limit → g k ≡ f k) → c ≡ b
    → other ≡ end →
    IsEnd f b limit end → IsEnd g c limit other
IsEnd-alike f g b c limit end other alike same_bucket same_end is = record {
  within = omega (arith, same_end, is.within);
  last = λ some.
      let before : other - 1 ≡ end - 1 = omega (arith, same_end) in
      ap g before ∙ (alike (end - 1) (omega (arith, some, same_end, is.within))
      ∙ (is.last (omega (arith, some, same_end)) ∙ sym same_bucket));
  none = λ k from to e. is.none k (omega (arith, from, same_end)) to (sym (alike k to)
      ∙ (e ∙ same_bucket));
}

-- where another node is the last, in another bucket
IsEnd-past : (f g : ℕ → ℕ) (b limit end other : ℕ) → ((k : ℕ) → k < limit → g k ≡ f k) → g limit ≢ b
    → other ≡ end →
    IsEnd f b limit end → IsEnd g b (limit + 1) other
IsEnd-past f g b limit end other alike apart same_end is = record {
  within = omega (arith, same_end, is.within);
  last = λ some.
      let before : other - 1 ≡ end - 1 = omega (arith, same_end) in
      ap g before ∙ (alike (end - 1) (omega (arith, some, same_end, is.within))
      ∙ is.last (omega (arith, some, same_end)));
  none = λ k from to e. elim (cases_lt k limit) [
    | inl l ↦ is.none k (omega (arith, from, same_end)) l (sym (alike k l) ∙ e)
    | inr l ↦ apart (ap g (let here : limit ≡ k = omega (arith, l, to) in here) ∙ e)
  ];
}

-- and where it is taken away
IsEnd-short : (f g : ℕ → ℕ) (b limit end other : ℕ) → ((k : ℕ) → k < limit → g k ≡ f k)
    → f limit ≢ b → other ≡ end →
    IsEnd f b (limit + 1) end → IsEnd g b limit other
IsEnd-short f g b limit end other alike apart same_end is =
    let within : end ≤ limit = elim (cases_lt limit end) [
      | inl l ↦ absurd (apart (ap f (let here : limit ≡ end - 1 = omega (arith, l, is.within)
          in here) ∙ is.last (omega (arith, l))))
      | inr l ↦ l
    ] in
    record {
      within = omega (arith, same_end, within);
      last = λ some.
          let before : other - 1 ≡ end - 1 = omega (arith, same_end) in
          ap g before ∙ (alike (end - 1) (omega (arith, some, same_end, within))
          ∙ is.last (omega (arith, some, same_end)));
      none = λ k from to e. is.none k (omega (arith, from, same_end)) (omega (arith, to))
          (sym (alike k to) ∙ e);
    }

module _ (digests digests' ends ends' before before' : List ℕ) (count b : ℕ)
    (as_long : length ends' ≡ length ends)
    (kept : (k : ℕ) → k < count → get_or digests' k 0 ≡ get_or digests k 0)
    (links : (k : ℕ) → k < count → get_or before' k 0 ≡ get_or before k 0)
    (others : (i : ℕ) → i ≢ b → get_or ends' i 0 ≡ get_or ends i 0) where
  alike : (k : ℕ) → k < count →
      bucket_at (record { digests = digests'; buckets = length ends' }) k
      ≡ bucket_at (record { digests = digests; buckets = length ends }) k
  alike k l = ap (λ n. get_or digests' k 0 % n) as_long ∙ ap (λ d. d % length ends) (kept k l)

  below : (k : ℕ) → k < count → (j : ℕ) → j < k →
      bucket_at (record { digests = digests'; buckets = length ends' }) j
      ≡ bucket_at (record { digests = digests; buckets = length ends }) j
  below k l j m = alike j (omega (arith, l, m))

  pub AreLinked-more : b < length ends → get_or digests' count 0 % length ends ≡ b
      → get_or before' count 0 ≡ get_or ends b 0 →
      get_or ends' b 0 ≡ count + 1 → AreLinked digests ends before count
      → AreLinked digests' ends' before' (count + 1)
  AreLinked-more there falls link here are =
      let own : bucket_at (record { digests = digests'; buckets = length ends' }) count ≡ b =
      ap (λ n. get_or digests' count 0 % n) as_long ∙ falls in
      record {
        newest = λ c l. elim (cases_eq c b) [
          | inl e ↦ record {
            within = omega (arith, here, ap (λ i. get_or ends' i 0) e);
            last = λ some.
                ap (bucket_at (record { digests = digests'; buckets = length ends' }))
                (let at : get_or ends' c 0 - 1 ≡ count = omega
                (arith, here, ap (λ i. get_or ends' i 0) e) in at)
                ∙ (own ∙ sym e);
            none = λ k from to same. absurd (omega
                (arith, from, to, here, ap (λ i. get_or ends' i 0) e));
          }
          | inr ne ↦ IsEnd-past (bucket_at (record { digests = digests; buckets = length ends }))
              (bucket_at (record { digests = digests'; buckets = length ends' })) c count
              (get_or ends c 0) (get_or ends' c 0)
              alike (λ e. ne (sym e ∙ own)) (others c ne) (are.newest c (omega (arith, l, as_long)))
        ];
        older = λ k l. elim (cases_lt k count) [
          | inl m ↦ IsEnd-alike (bucket_at (record { digests = digests; buckets = length ends }))
              (bucket_at (record { digests = digests'; buckets = length ends' }))
              (get_or digests k 0 % length ends) (get_or digests' k 0 % length ends') k
              (get_or before k 0) (get_or before' k 0)
              (below k m) (alike k m) (links k m) (are.older k m)
          | inr m ↦
              let is : k ≡ count = omega (arith, l, m) in
              subst (λ j. IsEnd (bucket_at (record { digests = digests'; buckets = length ends' }))
              (get_or digests' j 0 % length ends') j (get_or before' j 0))
              (sym is)
              (IsEnd-alike (bucket_at (record { digests = digests; buckets = length ends }))
              (bucket_at (record { digests = digests'; buckets = length ends' }))
              b (get_or digests' count 0 % length ends') count (get_or ends b 0)
              (get_or before' count 0)
              alike own link (are.newest b there))
        ];
      }

  pub AreLinked-fewer : get_or digests count 0 % length ends ≡ b → get_or ends' b 0
      ≡ get_or before count 0 →
      AreLinked digests ends before (count + 1) → AreLinked digests' ends' before' count
  AreLinked-fewer falls here are = record {
    newest = λ c l. elim (cases_eq c b) [
      | inl e ↦ IsEnd-alike (bucket_at (record { digests = digests; buckets = length ends }))
          (bucket_at (record { digests = digests'; buckets = length ends' }))
          (get_or digests count 0 % length ends) c count (get_or before count 0) (get_or ends' c 0)
          alike (e ∙ sym falls) (ap (λ i. get_or ends' i 0) e
          ∙ here) (are.older count (omega arith))
      | inr ne ↦ IsEnd-short (bucket_at (record { digests = digests; buckets = length ends }))
          (bucket_at (record { digests = digests'; buckets = length ends' })) c count
          (get_or ends c 0) (get_or ends' c 0)
          alike (λ e. ne (sym e ∙ falls)) (others c ne) (are.newest c (omega (arith, l, as_long)))
    ];
    older = λ k l.
        IsEnd-alike (bucket_at (record { digests = digests; buckets = length ends }))
        (bucket_at (record { digests = digests'; buckets = length ends' }))
        (get_or digests k 0 % length ends) (get_or digests' k 0 % length ends') k
        (get_or before k 0) (get_or before' k 0)
        (below k l) (alike k l) (links k l) (are.older k (omega (arith, l)));
  }

-- the links of no nodes
pub AreLinked-none : (digests ends before : List ℕ) → ((b : ℕ) → get_or ends b 0 ≡ 0)
    → AreLinked digests ends before 0
AreLinked-none digests ends before empty = record {
  newest = λ b l. record {
    within = omega (arith, empty b);
    last = λ some. absurd (omega (arith, some, empty b));
    none = λ k from to. absurd (omega (arith, to));
  };
  older = λ k l. absurd (omega (arith, l));
}

-- one more node is linked
pub AreLinked-link : (digests ends before : List ℕ) (count b : ℕ) → count < length before → b
    < length ends →
    b ≡ get_or digests count 0 % length ends → AreLinked digests ends before count →
    AreLinked digests (set ends b (count + 1)) (set before count (get_or ends b 0)) (count + 1)
AreLinked-link digests ends before count b more there falls are =
    AreLinked-more digests digests ends (set ends b (count + 1)) before
    (set before count (get_or ends b 0)) count b
    (length-set ends b (count + 1)) (λ k l. refl)
    (λ k l. get_or-set_other before count k (get_or ends b 0) 0 (λ e. absurd (omega (arith, e, l))))
    (λ i ne. get_or-set_other ends b i (count + 1) 0 ne)
    there (sym falls) (get_or-set_same before count (get_or ends b 0) 0 more)
    (get_or-set_same ends b (count + 1) 0 there) are

-- one more node is added, and linked
pub AreLinked-push : (digests ends before digests' ends' before' : List ℕ) (d b : ℕ) → length before
    ≡ length digests → b < length ends →
    b ≡ d % length ends → digests' ≡ digests ++ (d ∷ []) → before' ≡ before
    ++ (get_or ends b 0 ∷ []) → ends' ≡ set ends b (length digests + 1) →
    AreLinked digests ends before (length digests)
    → AreLinked digests' ends' before' (length digests + 1)
AreLinked-push digests ends before digests' ends' before' d b as_many there falls more link
    here are =
    AreLinked-more digests digests' ends ends' before before' (length digests) b
    (ap length here ∙ length-set ends b (length digests + 1))
    (λ k l. ap (λ xs. get_or xs k 0) more ∙ get_or_append_left digests (d ∷ []) 0 k l)
    (λ k l. ap (λ xs. get_or xs k 0) link ∙ get_or_append_left before (get_or ends b 0 ∷ []) 0 k
    (omega (arith, l, as_many)))
    (λ i ne. ap (λ xs. get_or xs i 0) here ∙ get_or-set_other ends b i (length digests + 1) 0 ne)
    there
    (ap (λ e. e % length ends) (ap (λ xs. get_or xs (length digests) 0) more
    ∙ get_or_at digests d [] 0 (length digests) refl) ∙ sym falls)
    (ap (λ xs. get_or xs (length digests) 0) link ∙ get_or_at before (get_or ends b 0) [] 0
    (length digests) as_many)
    (ap (λ xs. get_or xs b 0) here ∙ get_or-set_same ends b (length digests + 1) 0 there)
    are

-- the last node is taken away
pub AreLinked-pop : (digests ends before digests' before' : List ℕ) (d end b : ℕ) → digests
    ≡ digests' ++ (d ∷ []) → before ≡ before' ++ (end ∷ []) →
    length before' ≡ length digests' → b < length ends → b ≡ d % length ends →
    AreLinked digests ends before (length digests)
    → AreLinked digests' (set ends b end) before' (length digests')
AreLinked-pop digests ends before digests' before' d end b one_more link as_many there falls are =
    AreLinked-fewer digests digests' ends (set ends b end) before before' (length digests') b
    (length-set ends b end)
    (λ k l. sym (ap (λ xs. get_or xs k 0) one_more ∙ get_or_append_left digests' (d ∷ []) 0 k l))
    (λ k l. sym (ap (λ xs. get_or xs k 0) link ∙ get_or_append_left before' (end ∷ []) 0 k
    (omega (arith, l, as_many))))
    (λ i ne. get_or-set_other ends b i end 0 ne)
    (ap (λ e. e % length ends) (ap (λ xs. get_or xs (length digests') 0) one_more
    ∙ get_or_at digests' d [] 0 (length digests') refl) ∙ sym falls)
    (get_or-set_same ends b end 0 there ∙ sym (ap (λ xs. get_or xs (length digests') 0) link
    ∙ get_or_at before' end [] 0 (length digests') as_many))
    (subst (AreLinked digests ends before) (ap length one_more ∙ length_push digests' d) are)
