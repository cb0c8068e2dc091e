-- Threads where a place comes at the end, and where the last one goes.
use Rattle.std.proofs.Common.{◌≡◌, ◌≢◌, ℕ, ◌+◌, ◌<◌, ◌≤◌, ◌%◌, List, [], ◌∷◌, ◌++◌, inl, inr, length, get_or, set, All, refl, ap, sym, subst, ◌∙◌, arith, get_or-set_same, get_or-set_other, length-set}
use Rattle.std.proofs.lemmas.Bool.{cases_eq, cases_lt}
use Rattle.std.proofs.lemmas.List.{get_or_append_left, get_or_at, length_push}
use Rattle.std.proofs.lemmas.List.Elements.{All-get_or}
use Rattle.esc_index.specs.Places.{entry_at}
use Rattle.esc_index.specs.ThreadsInside.{bucket_at, IsHead, IsThreaded}
use Rattle.esc_index.specs.IndexInside.{IsHeld}

module _ (entries : List (ℕ × ℕ)) (size bucket end head : ℕ)
    (is : IsHead entries size bucket end head) where
  -- the next place is in the bucket
  pub IsHead-here : bucket_at entries size end ≡ bucket
      → IsHead entries size bucket (end + 1) (end + 1)
  IsHead-here here = record {
    bound = omega arith;
    has = λ p e. let last : p ≡ end = omega (arith, e) in ap (bucket_at entries size) last ∙ here;
    last = λ p low high. absurd (omega (arith, low, high));
  }

  -- the next place is in another bucket
  pub IsHead-elsewhere : bucket_at entries size end ≢ bucket
      → IsHead entries size bucket (end + 1) head
  IsHead-elsewhere other = record {
    bound = omega (arith, is.bound);
    has = is.has;
    last = λ p low high. elim (cases_lt p end) [
      | inl less ↦ is.last p low less
      | inr past ↦ let last : p ≡ end = omega (arith, past, high)
          in (λ e. other (ap (bucket_at entries size) (sym last) ∙ e))
    ];
  }

-- the same places before the end
pub IsHead-same : (entries others : List (ℕ × ℕ)) (size bucket end head : ℕ) →
    ((p : ℕ) → p < end → entry_at others p ≡ entry_at entries p) →
    IsHead entries size bucket end head → IsHead others size bucket end head
IsHead-same entries others size bucket end head same is = record {
  bound = is.bound;
  has = λ p e. ap (λ (x : ℕ × ℕ). x.0 % size) (same p (omega (arith, e, is.bound))) ∙ is.has p e;
  last = λ p low high e. is.last p low high (ap (λ (x : ℕ × ℕ). x.0 % size) (sym (same p high))
      ∙ e);
}

IsHead-at : (entries : List (ℕ × ℕ)) (size bucket bucket' end end' head head' : ℕ) → bucket
    ≡ bucket' → end ≡ end' → head ≡ head' →
    IsHead entries size bucket end head → IsHead entries size bucket' end' head'
IsHead-at entries size bucket bucket' end end' head head' b e h is =
    subst (λ x. IsHead entries size x end' head') b
    (subst (λ x. IsHead entries size bucket x head') e
    (subst (λ x. IsHead entries size bucket end x) h is))

-- no place is threaded
pub IsThreaded-none : (entries : List (ℕ × ℕ)) (heads next : List ℕ) → All (λ h. h ≡ 0) heads
    → IsThreaded entries 0 heads next
IsThreaded-none entries heads next empty = record {
  starts = λ b l.
      let none : get_or heads b 0 ≡ 0 = All-get_or (λ h. h ≡ 0) heads b 0 l empty in
      IsHead-at entries (length heads) b b 0 0 0 (get_or heads b 0) refl refl (sym none) (record {
        bound = omega arith;
        has = λ p e. absurd (omega (arith, e));
        last = λ p low high. absurd (omega (arith, high));
      });
  goes_on = λ p l. absurd (omega (arith, l));
}

-- one place more is threaded
module _ (entries : List (ℕ × ℕ)) (end : ℕ) (heads next : List ℕ) (some : 0 < length heads)
    (is : IsThreaded entries end heads next)
    (bucket : ℕ) (at : bucket ≡ bucket_at entries (length heads) end) (low : bucket < length heads)
    (heads' next' : List ℕ) (heads_is : heads' ≡ set heads bucket (end + 1))
    (kept : (p : ℕ) → p < end → get_or next' p 0 ≡ get_or next p 0) (here : get_or next' end 0
    ≡ get_or heads bucket 0) where
  size_same : length heads' ≡ length heads
  size_same = ap length heads_is ∙ length-set heads bucket (end + 1)

  head_more : (b : ℕ) → b < length heads → IsHead entries (length heads) b (end
      + 1) (get_or heads' b 0)
  head_more b l =
      elim (cases_eq b bucket) [
        | inl e ↦ IsHead-at entries (length heads) bucket b (end + 1) (end + 1) (end
            + 1) (get_or heads' b 0) (sym e) refl
            (sym (ap (λ hs. get_or hs b 0) heads_is
            ∙ (ap (λ i. get_or (set heads bucket (end + 1)) i 0) e
            ∙ get_or-set_same heads bucket (end + 1) 0 low)))
            (IsHead-here entries (length heads) bucket end (get_or heads bucket 0)
            (is.starts bucket low) (sym at))
        | inr ne ↦ IsHead-at entries (length heads) b b (end + 1) (end + 1) (get_or heads b 0)
            (get_or heads' b 0) refl refl
            (sym (ap (λ hs. get_or hs b 0) heads_is
            ∙ get_or-set_other heads bucket b (end + 1) 0 ne))
            (IsHead-elsewhere entries (length heads) b end (get_or heads b 0) (is.starts b l)
            (λ e. ne (sym e ∙ sym at)))
      ]

  next_more : (p : ℕ) → p < end + 1 → IsHead entries (length heads)
      (bucket_at entries (length heads) p) p (get_or next' p 0)
  next_more p l =
      elim (cases_lt p end) [
        | inl less ↦ IsHead-at entries (length heads) _ _ p p (get_or next p 0) (get_or next' p 0)
            refl refl (sym (kept p less)) (is.goes_on p less)
        | inr past ↦
            let last : end ≡ p = omega (arith, l, past) in
            IsHead-at entries (length heads) bucket (bucket_at entries (length heads) p) end p
            (get_or heads bucket 0) (get_or next' p 0)
            (at ∙ ap (bucket_at entries (length heads)) last) last (sym here
            ∙ ap (λ i. get_or next' i 0) last) (is.starts bucket low)
      ]

  pub IsThreaded-more : IsThreaded entries (end + 1) heads' next'
  IsThreaded-more = record {
    starts = λ b l. subst (λ n. IsHead entries n b (end + 1) (get_or heads' b 0)) (sym size_same)
        (head_more b (omega (arith, l, size_same)));
    goes_on = λ p l. subst (λ n. IsHead entries n (bucket_at entries n p) p (get_or next' p 0))
        (sym size_same) (next_more p l);
  }

-- the same of other entries that are the same before the end
pub IsThreaded-same : (entries others : List (ℕ × ℕ)) (end : ℕ) (heads next : List ℕ) →
    ((p : ℕ) → p < end → entry_at others p ≡ entry_at entries p) →
    IsThreaded entries end heads next → IsThreaded others end heads next
IsThreaded-same entries others end heads next same is = record {
  starts = λ b l. IsHead-same entries others (length heads) b end (get_or heads b 0) same
      (is.starts b l);
  goes_on = λ p l.
      IsHead-at others (length heads) (bucket_at entries (length heads) p)
      (bucket_at others (length heads) p) p p (get_or next p 0) (get_or next p 0)
      (ap (λ (x : ℕ × ℕ). x.0 % length heads) (sym (same p l))) refl refl
      (IsHead-same entries others (length heads) (bucket_at entries (length heads) p) p
      (get_or next p 0) (λ q m. same q (omega (arith, l, m))) (is.goes_on p l));
}

-- ---- the last place goes

module _ (entries : List (ℕ × ℕ)) (end : ℕ) (heads next : List ℕ)
    (is : IsThreaded entries (end + 1) heads next)
    (bucket : ℕ) (at : bucket ≡ bucket_at entries (length heads) end) (low : bucket < length heads)
    (heads' : List ℕ) (heads_is : heads' ≡ set heads bucket (get_or next end 0)) where
  fewer_size : length heads' ≡ length heads
  fewer_size = ap length heads_is ∙ length-set heads bucket (get_or next end 0)

  -- in the other buckets the last place was not the head
  head_kept : (b : ℕ) → b ≢ bucket → b < length heads
      → IsHead entries (length heads) b end (get_or heads b 0)
  head_kept b ne l =
      let was = is.starts b l in
      let before : get_or heads b 0 ≤ end =
      elim (cases_lt end (get_or heads b 0)) [
        | inl h ↦ absurd (ne (sym (was.has end (omega (arith, h, was.bound))) ∙ sym at))
        | inr h ↦ h
      ] in
      record { bound = before; has = was.has; last = λ p lo hi. was.last p lo (omega (arith, hi)) }

  head_fewer : (b : ℕ) → b < length heads → IsHead entries (length heads) b end (get_or heads' b 0)
  head_fewer b l =
      elim (cases_eq b bucket) [
        | inl e ↦ IsHead-at entries (length heads) (bucket_at entries (length heads) end) b end end
            (get_or next end 0) (get_or heads' b 0)
            (sym at ∙ sym e) refl
            (sym (ap (λ hs. get_or hs b 0) heads_is
            ∙ (ap (λ i. get_or (set heads bucket (get_or next end 0)) i 0) e
            ∙ get_or-set_same heads bucket (get_or next end 0) 0 low)))
            (is.goes_on end (omega arith))
        | inr ne ↦ IsHead-at entries (length heads) b b end end (get_or heads b 0)
            (get_or heads' b 0) refl refl
            (sym (ap (λ hs. get_or hs b 0) heads_is
            ∙ get_or-set_other heads bucket b (get_or next end 0) 0 ne))
            (head_kept b ne l)
      ]

  pub IsThreaded-fewer : (next' : List ℕ) → ((p : ℕ) → p < end → get_or next' p 0 ≡ get_or next p 0)
      → IsThreaded entries end heads' next'
  IsThreaded-fewer next' kept = record {
    starts = λ b l. subst (λ n. IsHead entries n b end (get_or heads' b 0)) (sym fewer_size)
        (head_fewer b (omega (arith, l, fewer_size)));
    goes_on = λ p l. subst (λ n. IsHead entries n (bucket_at entries n p) p (get_or next' p 0))
        (sym fewer_size)
        (IsHead-at entries (length heads) _ _ p p (get_or next p 0) (get_or next' p 0) refl refl
        (sym (kept p l)) (is.goes_on p (omega (arith, l))));
  }

-- ---- what an index holds

pub IsHeld-more : (entries : List (ℕ × ℕ)) (heads next : List ℕ) (as_many : length next
    ≡ length entries) →
    IsThreaded entries (length entries) heads next → 0 < length heads →
    (x : ℕ × ℕ) (size head count : ℕ) → size ≡ length heads → head ≡ get_or heads (x.0 % size) 0
    → x.0 % size < length heads → count ≡ length entries + 1 →
    IsHeld (entries ++ (x ∷ [])) (set heads (x.0 % size) count) (next ++ (head ∷ []))
IsHeld-more entries heads next as_many is some x size head count size_is head_is low count_is =
    let more : length (entries ++ (x ∷ [])) ≡ length entries + 1 = length_push entries x in
    record {
      some = λ l. omega (arith, some, length-set heads (x.0 % size) count);
      as_many = omega (arith, more, length_push next head, as_many);
      threaded =
          subst (λ n. IsThreaded (entries ++ (x ∷ [])) n (set heads (x.0 % size) count) (next
          ++ (head ∷ []))) (sym more)
          (IsThreaded-more (entries ++ (x ∷ [])) (length entries) heads next some
          (IsThreaded-same entries (entries ++ (x ∷ [])) (length entries) heads next
          (λ p l. get_or_append_left entries (x ∷ []) (0, 0) p l) is)
          (x.0 % size)
          (ap (λ n. x.0 % n) size_is ∙ ap (λ (y : ℕ × ℕ). y.0 % length heads)
          (sym (get_or_at entries x [] (0, 0) (length entries) refl)))
          low (set heads (x.0 % size) count) (next ++ (head ∷ []))
          (ap (set heads (x.0 % size)) count_is)
          (λ p l. get_or_append_left next (head ∷ []) 0 p (omega (arith, l, as_many)))
          (get_or_at next head [] 0 (length entries) as_many ∙ head_is));
    }

pub IsHeld-fewer : (entries : List (ℕ × ℕ)) (heads next : List ℕ) → IsHeld entries heads next →
    (entries' : List (ℕ × ℕ)) (x : ℕ × ℕ) → entries ≡ entries' ++ (x ∷ []) →
    (next' : List ℕ) (head : ℕ) → next ≡ next' ++ (head ∷ []) →
    (size : ℕ) → size ≡ length heads → IsHeld entries' (set heads (x.0 % size) head) next'
IsHeld-fewer entries heads next held entries' x entries_is next' head next_is size size_is =
    let more : length entries ≡ length entries' + 1 = ap length entries_is
    ∙ length_push entries' x in
    let more_next : length next ≡ length next' + 1 = ap length next_is ∙ length_push next' head in
    let count : length next' ≡ length entries' = omega (arith, more, more_next, held.as_many) in
    let some : 0 < length heads = held.some (omega (arith, more)) in
    let here : entry_at entries (length entries') ≡ x =
    ap (λ es. entry_at es (length entries')) entries_is
    ∙ get_or_at entries' x [] (0, 0) (length entries') refl in
    let bucket_is : x.0 % size ≡ bucket_at entries (length heads) (length entries') =
    ap (λ n. x.0 % n) size_is ∙ ap (λ (y : ℕ × ℕ). y.0 % length heads) (sym here) in
    let low : x.0 % size < length heads = omega (arith, some, size_is) in
    record {
      some = λ l. omega (arith, some, length-set heads (x.0 % size) head);
      as_many = count;
      threaded =
          IsThreaded-same entries entries' (length entries') (set heads (x.0 % size) head) next'
          (λ p l. sym (ap (λ es. entry_at es p) entries_is
          ∙ get_or_append_left entries' (x ∷ []) (0, 0) p l))
          (IsThreaded-fewer entries (length entries') heads next
          (subst (λ n. IsThreaded entries n heads next) more held.threaded)
          (x.0 % size) bucket_is low (set heads (x.0 % size) head)
          (ap (set heads (x.0 % size)) (sym (ap (λ ns. get_or ns (length entries') 0) next_is
          ∙ get_or_at next' head [] 0 (length entries') count)))
          next' (λ p l. sym (ap (λ ns. get_or ns p 0) next_is
          ∙ get_or_append_left next' (head ∷ []) 0 p (omega (arith, l, count)))));
    }
