-- Laws of the members of classes.
use Rattle.std.proofs.Common.{◌≡◌, ◌≢◌, ℕ, ◌-◌, ◌<◌, ◌≤◌, ◌==◌, ◌↔◌, List, [], ◌∷◌, ◌++◌, inl, inr, length, take, get_or, All, refl, ap, sym, subst, ◌∙◌, length-append, arith, if◌then◌else◌}
use Rattle.std.specs.List.{Contains, fold}
use Rattle.std.proofs.lemmas.Bool.{cases_eq, cases_lt, eq-eqb, ne_eqb}
use Rattle.std.proofs.lemmas.List.{get_or_append_left, get_or-append_right, get_or_default, take-append-le}
use Rattle.std.proofs.lemmas.List.Elements.{All-append, Contains-append_left, Contains-append_right, Contains-append_cases}
use Rattle.std.proofs.lemmas.List.Sums.{fold-append}
use Rattle.std.proofs.Math.Seq.{take-append_seam}
use Rattle.esc_union.specs.Merges.{SameClass, AreMerges, with_merge, class_number, merge_at}
use Rattle.esc_union.specs.Members.{Listed, with_listed, members_of}
use Rattle.esc_union.proofs.Ends.{by_ends, All-front, All-last, All-one}
use Rattle.esc_union.proofs.Numbers.{moved_at, moved_other, class_number-none, class_number-more, class_number-beyond}

-- ---- one merge more

listed_number : (l : Listed) (ms : List (ℕ × ℕ)) → (fold with_listed l ms).number
    ≡ fold with_merge l.number ms
listed_number l [] = refl
listed_number l (m ∷ ms) = listed_number (with_listed l m) ms

pub members_of-none : (k : ℕ) → members_of [] k ≡ k ∷ []
unfolding members_of
members_of-none k = refl

abbrev longer : (ℕ → List ℕ) → ℕ → ℕ → ℕ → List ℕ
longer members from into k = if k == into then members k ++ members from else members k

members_of-more : (ms : List (ℕ × ℕ)) (m : ℕ × ℕ) (k : ℕ) →
    members_of (ms ++ (m ∷ [])) k ≡ longer (members_of ms) (class_number ms m.0)
    (class_number ms m.1) k
unfolding members_of class_number
members_of-more ms m k =
    let start : Listed = record { number = λ k. k; members = λ k. k ∷ [] } in
    ap (λ (l : Listed). l.members k) (fold-append with_listed start ms (m ∷ []))
    ∙ ap (λ (f : ℕ → ℕ). longer (fold with_listed start ms).members (f m.0) (f m.1) k)
    (listed_number start ms)

pub members_of-grown : (ms : List (ℕ × ℕ)) (m : ℕ × ℕ) (k : ℕ) → k ≡ class_number ms m.1 →
    members_of (ms ++ (m ∷ [])) k ≡ members_of ms k ++ members_of ms (class_number ms m.0)
members_of-grown ms m k e =
    members_of-more ms m k
    ∙ ap (λ t. if t then members_of ms k ++ members_of ms (class_number ms m.0) else members_of ms
    k) (eq-eqb k (class_number ms m.1) e)

pub members_of-kept : (ms : List (ℕ × ℕ)) (m : ℕ × ℕ) (k : ℕ) → k ≢ class_number ms m.1 →
    members_of (ms ++ (m ∷ [])) k ≡ members_of ms k
members_of-kept ms m k ne =
    members_of-more ms m k
    ∙ ap (λ t. if t then members_of ms k ++ members_of ms (class_number ms m.0) else members_of ms
    k) (ne_eqb k (class_number ms m.1) ne)

-- ---- lists without repetition

abbrev pub IsOnce : List ℕ → Type 0
IsOnce xs = (i j : ℕ) → i < j → j < length xs → get_or xs i 0 ≢ get_or xs j 0

pub at_place : (xs : List ℕ) (i : ℕ) → i < length xs → Contains xs (get_or xs i 0)
at_place xs i l = (i, l, get_or_default xs i (get_or xs i 0) 0 l)

IsOnce-append : (xs ys : List ℕ) → IsOnce xs → IsOnce ys
    → ((n : ℕ) → Contains xs n → Contains ys n → ⊥) → IsOnce (xs ++ ys)
IsOnce-append xs ys x_once y_once apart i j ij jl =
    elim (cases_lt j (length xs)) [
      | inl jx ↦ λ e. x_once i j ij jx (sym (get_or_append_left xs ys 0 i (omega (arith, ij, jx)))
          ∙ (e ∙ get_or_append_left xs ys 0 j jx))
      | inr jy ↦ elim (cases_lt i (length xs)) [
        | inl ix ↦ λ e.
            let same : get_or xs i 0 ≡ get_or ys (j - length xs) 0 =
            sym (get_or_append_left xs ys 0 i ix) ∙ (e
            ∙ get_or-append_right xs ys (length xs) j 0 (λ k. length xs) jy) in
            apart (get_or xs i 0) (at_place xs i ix)
            (subst (λ n. Contains ys n) (sym same)
            (at_place ys (j - length xs) (omega (arith, jl, jy, length-append xs ys))))
        | inr iy ↦ λ e. y_once (i - length xs) (j - length xs) (omega (arith, ij, iy))
            (omega (arith, jl, jy, length-append xs ys))
            (sym (get_or-append_right xs ys (length xs) i 0 (λ k. length xs) iy)
            ∙ (e ∙ get_or-append_right xs ys (length xs) j 0 (λ k. length xs) jy))
      ]
    ]

-- ---- merges, all but the last and the last

pub AreMerges-front : (count : ℕ) (ms : List (ℕ × ℕ)) (m : ℕ × ℕ) → AreMerges count (ms ++ (m ∷ []))
    → AreMerges count ms
AreMerges-front count ms m are = record {
  there = All-front (λ (n : ℕ × ℕ). (n.0 < count) × (n.1 < count)) ms m are.there;
  apart = λ i l same.
      let front : take i (ms ++ (m ∷ [])) ≡ take i ms = take-append-le i ms (m
      ∷ []) (omega (arith, l)) in
      let at : merge_at (ms ++ (m ∷ [])) i ≡ merge_at ms i = get_or_append_left ms (m
      ∷ []) (0, 0) i l in
      are.apart i (omega (arith, l, length-append ms (m ∷ []))) (rw (front, at) same);
}

pub AreMerges-last : (count : ℕ) (ms : List (ℕ × ℕ)) (m : ℕ × ℕ)
    → AreMerges count (ms ++ (m ∷ [])) →
    (m.0 < count) × (m.1 < count) × (SameClass (class_number ms) m.0 m.1 → ⊥)
AreMerges-last count ms m are =
    let there = All-last (λ (n : ℕ × ℕ). (n.0 < count) × (n.1 < count)) ms m are.there in (
      there.0,
      there.1,
      λ same.
          let front : take (length ms) (ms ++ (m ∷ [])) ≡ ms = take-append_seam ms (m ∷ []) in
          let at : merge_at (ms ++ (m ∷ [])) (length ms)
          ≡ m = get_or-append_right ms (m ∷ []) (length ms) (length ms) (0, 0) (λ k. length ms)
          (omega arith)
          ∙ ap (λ i. get_or (m ∷ []) i (0, 0)) (let none : length ms - length ms ≡ 0 = omega arith
          in none) in
          are.apart (length ms) (omega (arith, length-append ms (m ∷ []))) (rw (front, at) same),
    )

pub AreMerges-more : (count : ℕ) (ms : List (ℕ × ℕ)) (m : ℕ × ℕ) → AreMerges count ms → m.0 < count
    → m.1 < count →
    (SameClass (class_number ms) m.0 m.1 → ⊥) → AreMerges count (ms ++ (m ∷ []))
AreMerges-more count ms m are l0 l1 apart = record {
  there = All-append (λ (n : ℕ × ℕ). (n.0 < count) × (n.1 < count)) ms (m ∷ []) are.there
      (All-one (λ (n : ℕ × ℕ). (n.0 < count) × (n.1 < count)) m (l0, l1));
  apart = λ i l same. elim (cases_lt i (length ms)) [
    | inl less ↦
        let front : take i (ms ++ (m ∷ [])) ≡ take i ms = take-append-le i ms (m
        ∷ []) (omega (arith, less)) in
        let at : merge_at (ms ++ (m ∷ [])) i ≡ merge_at ms i = get_or_append_left ms (m ∷ []) (0, 0)
        i less in
        are.apart i less (rw (front, at) at same)
    | inr last ↦
        let is : i ≡ length ms = omega (arith, l, last, length-append ms (m ∷ [])) in
        let front : take i (ms ++ (m ∷ [])) ≡ ms = ap (λ j. take j (ms ++ (m ∷ []))) is
        ∙ take-append_seam ms (m ∷ []) in
        let at : merge_at (ms ++ (m ∷ [])) i ≡ m = get_or-append_right ms (m ∷ []) (length ms) i
        (0, 0) (λ k. length ms) last
        ∙ ap (λ j. get_or (m ∷ []) j (0, 0)) (let none : i - length ms ≡ 0 = omega (arith, is)
        in none) in
        apart (rw (front, at) at same)
  ];
}

-- ---- what the lists tell

-- class numbers are nodes of their classes, and the list of such a node has its class
pub record IsTold (count : ℕ) (ms : List (ℕ × ℕ)) : Type 0 where
  pub low : (k : ℕ) → k < count → class_number ms k < count
  pub still : (k : ℕ) → k < count → class_number ms (class_number ms k) ≡ class_number ms k
  pub exact : (s n : ℕ) → s < count → class_number ms s ≡ s → Contains (members_of ms s) n
      ↔ ((n < count) × (class_number ms n ≡ s))
  pub once : (s : ℕ) → s < count → class_number ms s ≡ s → IsOnce (members_of ms s)

IsTold-none : (count : ℕ) → IsTold count []
IsTold-none count = record {
  low = λ k l. omega (arith, l, class_number-none k);
  still = λ k l. class_number-none (class_number [] k);
  exact = λ s n l own. rw (members_of-none s, class_number-none n) (
    λ c. let is : n ≡ s = (elim (cases_eq c.0 0) [
      | inl e ↦ sym c.2 ∙ ap (λ i. get_or (s ∷ []) i n) e
      | inr ne ↦ absurd (omega (arith, ne, c.1))
    ]) in (omega (arith, is, l), is),
    λ h. (0, omega arith, sym h.1),
  );
  once = λ s l own. rw (members_of-none s) (λ i j ij jl. absurd (omega (arith, ij, jl)));
}

module _ (count : ℕ) (ms : List (ℕ × ℕ)) (m : ℕ × ℕ) (told : IsTold count ms) (there : m.0 < count)
    (there_too : m.1 < count)
    (apart : SameClass (class_number ms) m.0 m.1 → ⊥) where
  -- the number that the merge does away with, and the one that stays
  abbrev from : ℕ
  from = class_number ms m.0

  abbrev into : ℕ
  into = class_number ms m.1

  pub goes : (k : ℕ) → class_number ms k ≡ from → class_number (ms ++ (m ∷ [])) k ≡ into
  goes k e = class_number-more ms m k ∙ moved_at from into _ e

  pub stays : (k : ℕ) → class_number ms k ≢ from → class_number (ms ++ (m ∷ [])) k
      ≡ class_number ms k
  stays k ne = class_number-more ms m k ∙ moved_other from into _ ne

  into_stays : class_number ms into ≢ from
  into_stays e = apart (sym e ∙ told.still m.1 there_too)

  still_more : (k : ℕ) → k < count → class_number (ms ++ (m ∷ [])) (class_number (ms ++ (m ∷ [])) k)
      ≡ class_number (ms ++ (m ∷ [])) k
  still_more k l =
      elim (cases_eq (class_number ms k) from) [
        | inl e ↦ ap (class_number (ms ++ (m ∷ []))) (goes k e)
            ∙ (stays into into_stays ∙ (told.still m.1 there_too ∙ sym (goes k e)))
        | inr ne ↦ ap (class_number (ms ++ (m ∷ []))) (stays k ne)
            ∙ (stays (class_number ms k) (λ e. ne (sym (told.still k l) ∙ e))
            ∙ (told.still k l ∙ sym (stays k ne)))
      ]

  -- a number that is left was one before
  pub was_own : (s : ℕ) → class_number (ms ++ (m ∷ [])) s ≡ s → (class_number ms s ≡ s) × (s ≢ from)
  was_own s own =
      elim (cases_eq (class_number ms s) from) [
        | inl e ↦ absurd (into_stays (ap (class_number ms) (sym (goes s e) ∙ own) ∙ e))
        | inr ne ↦
            let before : class_number ms s ≡ s = sym (stays s ne) ∙ own in
            (before, λ e. ne (before ∙ e))
      ]

  exact_more : (s n : ℕ) → s < count → class_number (ms ++ (m ∷ [])) s ≡ s →
      Contains (members_of (ms ++ (m ∷ [])) s) n ↔ ((n < count)
      × (class_number (ms ++ (m ∷ [])) n ≡ s))
  exact_more s n l own =
      let was = was_own s own in
      let from_own : class_number ms from ≡ from = told.still m.0 there in
      elim (cases_eq s into) [
        | inl e ↦ rw (members_of-grown ms m s e) (
          λ c. elim (Contains-append_cases (members_of ms s) (members_of ms from) n c) [
            | inl old ↦
                let h = (told.exact s n l was.0).0 old in
                (h.0, stays n (λ f. was.1 (sym h.1 ∙ f)) ∙ h.1)
            | inr new ↦
                let h = (told.exact from n (told.low m.0 there) from_own).0 new in
                (h.0, goes n h.1 ∙ sym e)
          ],
          λ h. elim (cases_eq (class_number ms n) from) [
            | inl f ↦ Contains-append_right (members_of ms s) (members_of ms from) n
                ((told.exact from n (told.low m.0 there) from_own).1 (h.0, f))
            | inr ne ↦ Contains-append_left (members_of ms s) (members_of ms from) n
                ((told.exact s n l was.0).1 (h.0, sym (stays n ne) ∙ h.1))
          ],
        )
        | inr other ↦ rw (members_of-kept ms m s other) (
          λ c.
              let h = (told.exact s n l was.0).0 c in
              (h.0, stays n (λ f. was.1 (sym h.1 ∙ f)) ∙ h.1),
          λ h. elim (cases_eq (class_number ms n) from) [
            | inl f ↦ absurd (other (sym h.1 ∙ goes n f))
            | inr ne ↦ (told.exact s n l was.0).1 (h.0, sym (stays n ne) ∙ h.1)
          ],
        )
      ]

  once_more : (s : ℕ) → s < count → class_number (ms ++ (m ∷ [])) s ≡ s
      → IsOnce (members_of (ms ++ (m ∷ [])) s)
  once_more s l own =
      let was = was_own s own in
      let from_own : class_number ms from ≡ from = told.still m.0 there in
      elim (cases_eq s into) [
        | inl e ↦ rw (members_of-grown ms m s e) (IsOnce-append (members_of ms s)
            (members_of ms from)
            (told.once s l was.0) (told.once from (told.low m.0 there) from_own)
            (λ n c d. was.1 (sym ((told.exact s n l was.0).0 c).1
            ∙ ((told.exact from n (told.low m.0 there) from_own).0 d).1)))
        | inr other ↦ rw (members_of-kept ms m s other) (told.once s l was.0)
      ]

  IsTold-more : AreMerges count (ms ++ (m ∷ [])) → IsTold count (ms ++ (m ∷ []))
  IsTold-more are = record {
    low = (class_number-beyond count (ms ++ (m ∷ [])) are.there).0;
    still = still_more;
    exact = exact_more;
    once = once_more;
  }

pub are_told : (count : ℕ) (ms : List (ℕ × ℕ)) → AreMerges count ms → IsTold count ms
are_told count =
    by_ends (λ ms. AreMerges count ms → IsTold count ms) (λ are. IsTold-none count)
    (λ ms m before are.
    let last = AreMerges-last count ms m are in
    IsTold-more count ms m (before (AreMerges-front count ms m are)) last.0 last.1 last.2 are)

-- a node that no merge has is listed alone
pub members_of-beyond : (count : ℕ) (ms : List (ℕ × ℕ))
    → All (λ m. (m.0 < count) × (m.1 < count)) ms →
    (k : ℕ) → count ≤ k → members_of ms k ≡ k ∷ []
members_of-beyond count =
    by_ends (λ ms. All (λ (m : ℕ × ℕ). (m.0 < count) × (m.1 < count)) ms → (k : ℕ) → count ≤ k
    → members_of ms k ≡ k ∷ [])
    (λ all k l. members_of-none k)
    (λ ms m before all k l.
    let front = All-front (λ (n : ℕ × ℕ). (n.0 < count) × (n.1 < count)) ms m all in
    let there = All-last (λ (n : ℕ × ℕ). (n.0 < count) × (n.1 < count)) ms m all in
    let low : class_number ms m.1 < count = (class_number-beyond count ms front).0 m.1 there.1 in
    members_of-kept ms m k (λ e. omega (arith, e, l, low)) ∙ before front k l)
