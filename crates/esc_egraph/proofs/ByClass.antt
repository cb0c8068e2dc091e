-- The sides of forbidden pairs by the classes in which they stand.
use Rattle.std.proofs.Common.{◌≡◌, ℕ, ◌<◌, ◌≤◌, List, [], ◌∷◌, ◌++◌, inl, inr, length, get_or, All, ap, sym, subst, ◌∙◌, arith}
use Rattle.std.specs.List.{Any, Contains}
use Rattle.std.proofs.lemmas.Bool.{cases_eq, cases_lt}
use Rattle.std.proofs.lemmas.List.{append-nil, append_assoc, get_or_append_left, get_or_default, length-append}
use Rattle.std.proofs.lemmas.List.Elements.{All-contains, Contains-append_cases, Contains-append_left, Contains-append_right, Contains-push, Contains-push_cases}
use Rattle.esc_index.specs.Places.{entry_at, HasNone, IsLastBefore}
use Rattle.esc_union.specs.Merges.{SameClass, class_number}
use Rattle.esc_union.proofs.Members.{IsTold, goes, stays}
use Rattle.esc_union.proofs.Numbers.{same_more}
use Rattle.esc_egraph.specs.ApartInside.{MeetsIn}
use Rattle.esc_egraph.specs.SidesInside.{AreAddedUnder, AreByClass, IsCopied, IsCopying}

pub AreByClass-none : (ms : List (ℕ × ℕ)) → AreByClass ms [] []
AreByClass-none ms = record {
  all = λ s c. absurd (omega (arith, c.1));
  only = λ e c. absurd (omega (arith, c.1));
}

-- a side more, with its entry
pub AreByClass-side : (ms sides entries : List (ℕ × ℕ)) (s : ℕ × ℕ) (number : ℕ)
    → class_number ms number ≡ class_number ms s.0 → number ≡ class_number ms s.0 →
    AreByClass ms sides entries →
    AreByClass ms (sides ++ (s ∷ [])) (entries ++ ((number, s.1) ∷ []))
AreByClass-side ms sides entries s number same number_is is = record {
  all = λ t c. elim (Contains-push_cases sides s t c) [
    | inl old ↦ Contains-append_left entries ((number, s.1) ∷ []) (class_number ms t.0, t.1)
        (is.all t old)
    | inr e ↦ subst (Contains (entries ++ ((number, s.1) ∷ [])))
        (ap (λ n. (n, s.1)) number_is ∙ ap (λ (x : ℕ × ℕ). (class_number ms x.0, x.1)) e)
        (Contains-push entries (number, s.1))
  ];
  only = λ e c. elim (Contains-push_cases entries (number, s.1) e c) [
    | inl old ↦
        let h = is.only e old in
        (h.0, h.1, Contains-append_left sides (s ∷ []) (h.0, e.1) h.2)
    | inr f ↦ (
      s.0,
      sym same ∙ ap (λ (x : ℕ × ℕ). class_number ms x.0) f,
      subst (λ (x : ℕ × ℕ). Contains (sides ++ (s ∷ [])) (s.0, x.1)) f (Contains-push sides s),
    )
  ];
}

-- two classes are merged
pub AreByClass-merged : (count : ℕ) (ms : List (ℕ × ℕ)) (m : ℕ × ℕ)
    (sides entries more : List (ℕ × ℕ)) → IsTold count ms → m.0 < count → m.1 < count →
    (SameClass (class_number ms) m.0 m.1 → ⊥) → AreByClass ms sides entries →
    AreAddedUnder entries (class_number ms m.0) (class_number ms m.1) more →
    AreByClass (ms ++ (m ∷ [])) sides (entries ++ more)
AreByClass-merged count ms m sides entries more told there there_too apart is added = record {
  all = λ s c. elim (cases_eq (class_number ms s.0) (class_number ms m.0)) [
    | inl e ↦ subst (λ n. Contains (entries ++ more) (n, s.1))
        (sym (goes count ms m told there there_too apart s.0 e))
        (Contains-append_right entries more (class_number ms m.1, s.1)
        (added.all s.1 (subst (λ n. Contains entries (n, s.1)) e (is.all s c))))
    | inr ne ↦ subst (λ n. Contains (entries ++ more) (n, s.1))
        (sym (stays count ms m told there there_too apart s.0 ne))
        (Contains-append_left entries more (class_number ms s.0, s.1) (is.all s c))
  ];
  only = λ e c. elim (Contains-append_cases entries more e c) [
    | inl old ↦
        let h = is.only e old in
        (h.0, same_more ms m h.0 e.0 h.1, h.2)
    | inr new ↦
        let a = added.only e new in
        let h = is.only (class_number ms m.0, e.1) a.1 in
        let large : class_number ms (class_number ms m.1)
        ≡ class_number ms m.1 = told.still m.1 there_too in
        let x_goes : class_number (ms ++ (m ∷ [])) h.0 ≡ class_number ms m.1 =
        goes count ms m told there there_too apart h.0 (h.1 ∙ told.still m.0 there) in
        let e_stays : class_number (ms ++ (m ∷ [])) e.0 ≡ class_number ms m.1 =
        ap (class_number (ms ++ (m ∷ []))) a.0
        ∙ (stays count ms m told there there_too apart (class_number ms m.1)
        (λ f. apart (sym f ∙ large)) ∙ large) in
        (h.0, x_goes ∙ sym e_stays, h.2)
  ];
}

-- ---- what stands under one number is added under another

pub IsCopying-starts : (entries : List (ℕ × ℕ)) (from into end : ℕ) → end ≡ length entries →
    IsCopying entries from into entries end
IsCopying-starts entries from into end e = record {
  more = [];
  grown = sym (append-nil entries);
  within = omega (arith, e);
  has = λ l. absurd (omega (arith, l, e));
  passed = λ p l m. absurd (omega (arith, l, m, e));
  only = λ x c. absurd (omega (arith, c.1));
}

module _ (entries : List (ℕ × ℕ)) (from into : ℕ) (now : List (ℕ × ℕ)) (end : ℕ)
    (is : IsCopying entries from into now end) where
  as_before : (p : ℕ) → p < length entries → entry_at now p ≡ entry_at entries p
  as_before p l = ap (λ xs. entry_at xs p) is.grown ∙ get_or_append_left entries is.more (0, 0) p l

  bound_now : end ≤ length now
  bound_now = omega (arith, is.within, ap length is.grown, length-append entries is.more)

  pub IsCopying-next : (place y : ℕ) → IsLastBefore now from end place → y ≡ (entry_at now place).1
      → (now' : List (ℕ × ℕ)) → now' ≡ now ++ ((into, y) ∷ []) →
      IsCopying entries from into now' place
  IsCopying-next place y last y_is now' grown =
      let pl : place < length entries = omega (arith, last.before, is.within) in
      let y_then : y ≡ (entry_at entries place).1 = y_is ∙ ap (λ (x : ℕ × ℕ). x.1)
      (as_before place pl) in
      let key_then : (entry_at entries place).0 ≡ from = ap (λ (x : ℕ × ℕ). x.0)
      (sym (as_before place pl)) ∙ last.has in
      record {
        more = is.more ++ ((into, y) ∷ []);
        grown = grown ∙ (ap (λ xs. xs ++ ((into, y) ∷ [])) is.grown ∙ append_assoc entries is.more
            ((into, y) ∷ []));
        within = omega (arith, pl);
        has = λ l. ap (λ xs. (entry_at xs place).0) grown
            ∙ (ap (λ (x : ℕ × ℕ). x.0) (get_or_append_left now ((into, y) ∷ []) (0, 0) place
            (omega (arith, last.before, bound_now))) ∙ last.has);
        passed = λ p pp l key. elim (cases_lt p end) [
          | inl low ↦ elim (cases_eq p place) [
            | inl e ↦ subst (λ n. Contains (is.more ++ ((into, y) ∷ [])) (into, n))
                (y_then ∙ ap (λ j. (entry_at entries j).1) (sym e))
                (Contains-push is.more (into, y))
            | inr ne ↦ absurd (last.last p (omega (arith, pp, ne)) low
                (ap (λ (x : ℕ × ℕ). x.0) (as_before p l) ∙ key))
          ]
          | inr past ↦ Contains-append_left is.more ((into, y) ∷ []) (into, (entry_at entries p).1)
              (is.passed p past l key)
        ];
        only = λ e c. elim (Contains-push_cases is.more (into, y) e c) [
          | inl old ↦ is.only e old
          | inr f ↦ (
            ap (λ (x : ℕ × ℕ). x.0) (sym f),
            (
              place,
              pl,
              get_or_default entries place (from, e.1) (0, 0) pl
                  ∙ (ap (λ k. (k, (entry_at entries place).1)) key_then
                  ∙ ap (λ n. (from, n)) (sym y_then ∙ ap (λ (x : ℕ × ℕ). x.1) f)),
            ),
          )
        ];
      }

  pub IsCopied-done : HasNone now from 0 end → IsCopied entries from into now
  IsCopied-done none = (
    is.more,
    is.grown,
    record {
      all = λ y c.
          let at : entry_at entries c.0
          ≡ (from, y) = get_or_default entries c.0 (0, 0) (from, y) c.1 ∙ c.2 in
          elim (cases_lt c.0 end) [
            | inl low ↦ absurd (none c.0 (omega arith) low
                (ap (λ (x : ℕ × ℕ). x.0) (as_before c.0 c.1 ∙ at)))
            | inr past ↦ subst (λ n. Contains is.more (into, n)) (ap (λ (x : ℕ × ℕ). x.1) at)
                (is.passed c.0 past c.1 (ap (λ (x : ℕ × ℕ). x.0) at))
          ];
      only = is.only;
    },
  )

-- ---- what the entries tell

module _ (ms sides entries : List (ℕ × ℕ)) (is : AreByClass ms sides entries) (a b root : ℕ)
    (root_is : root ≡ class_number ms a) (own : class_number ms root ≡ root) where
  pub sides_from_meets : MeetsIn (class_number ms) entries root b → Any (λ e. SameClass
      (class_number ms) e.0 a × SameClass (class_number ms) e.1 b) sides
  sides_from_meets (k, e, l, at, h) =
      let s = is.only e (k, l, at) in (
        s.2.0,
        (s.0, e.1),
        s.2.1,
        s.2.2,
        (s.1 ∙ (ap (class_number ms) h.0 ∙ (own ∙ root_is)), h.1),
      )

  pub meets_from_sides : Any (λ e. SameClass (class_number ms) e.0 a
      × SameClass (class_number ms) e.1 b) sides → MeetsIn (class_number ms) entries root b
  meets_from_sides (k, s, l, at, h) =
      let c = is.all s (k, l, at) in
      (c.0, (class_number ms s.0, s.1), c.1, c.2, (h.0 ∙ sym root_is, h.1))

-- the node of each entry is a node of a side
pub entries_low : (ms sides entries : List (ℕ × ℕ)) (count : ℕ) → AreByClass ms sides entries
    → All (λ e. (e.0 < count) × (e.1 < count)) sides → All (λ e. e.1 < count) entries
entries_low ms sides entries count is low = λ k d l.
    let s = is.only (get_or entries k d)
    (k, l, get_or_default entries k (get_or entries k d) d l) in
    (All-contains
    (λ (e : ℕ × ℕ). (e.0 < count) × (e.1 < count)) sides (s.0, (get_or entries k d).1) low s.2).1
