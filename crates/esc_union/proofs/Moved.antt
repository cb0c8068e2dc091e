-- The members of a class that a merge did away with stay as they were.
use Rattle.std.proofs.Common.{◌≡◌, ◌≢◌, ℕ, ◌+◌, ◌<◌, ◌↔◌, List, [], ◌∷◌, ◌++◌, length, take, drop, map, get_or, inl, inr, All, refl, ap, sym, subst, ◌∙◌, append_assoc, arith}
use Rattle.std.specs.List.{Contains}
use Rattle.std.proofs.lemmas.List.{append-nil, take-append-drop, take_more, length-map}
use Rattle.esc_union.specs.Merges.{AreMerges, class_number, merge_at}
use Rattle.esc_union.specs.Members.{members_of, moved_by}
use Rattle.esc_union.specs.PartitionInside.{IsHeld}
use Rattle.std.proofs.lemmas.Bool.{cases_eq}
use Rattle.std.proofs.lemmas.List.Elements.{All-append, All-get_or}
use Rattle.esc_union.proofs.Ends.{by_ends, All-front, All-last, All-one}
use Rattle.esc_union.proofs.Numbers.{class_number-beyond}
use Rattle.esc_union.proofs.Holding.{AreMerges-fewer, read_list}
use Rattle.esc_union.proofs.Members.{IsTold, are_told, was_own, AreMerges-front, AreMerges-last, members_of-none, members_of-grown, members_of-kept}

-- a number that is gone does not come back, and its list stays
gone : (count : ℕ) (ms : List (ℕ × ℕ)) (k : ℕ) → class_number ms k ≢ k → (more : List (ℕ × ℕ))
    → AreMerges count (ms ++ more) →
    (class_number (ms ++ more) k ≢ k) × (members_of (ms ++ more) k ≡ members_of ms k)
gone count ms k ne =
    by_ends (λ more. AreMerges count (ms ++ more) → (class_number (ms ++ more) k ≢ k)
    × (members_of (ms ++ more) k ≡ members_of ms k))
    (λ are. rw (append-nil ms) (ne, refl))
    (λ more m before are.
    let are' : AreMerges count ((ms ++ more) ++ (m ∷ [])) = subst (AreMerges count)
    (sym (append_assoc ms more (m ∷ []))) are in
    let front : AreMerges count (ms ++ more) = AreMerges-front count (ms ++ more) m are' in
    let last = AreMerges-last count (ms ++ more) m are' in
    let told : IsTold count (ms ++ more) = are_told count (ms ++ more) front in
    let h = before front in
    subst (λ xs. (class_number xs k ≢ k) × (members_of xs k ≡ members_of ms k))
    (append_assoc ms more (m ∷ [])) (
      λ e. h.0 (was_own count (ms ++ more) m told last.0 last.1 last.2 k e).0,
      members_of-kept (ms ++ more) m k (λ e. h.0 (ap (class_number (ms ++ more)) e
          ∙ (told.still m.1 last.1 ∙ sym e))) ∙ h.1,
    ))

module _ (count : ℕ) (ms : List (ℕ × ℕ)) (are : AreMerges count ms) (i : ℕ) (l : i
    < length ms) where
  abbrev front : List (ℕ × ℕ)
  front = take i ms

  abbrev at : ℕ × ℕ
  at = merge_at ms i

  one_more : take (i + 1) ms ≡ take i ms ++ (merge_at ms i ∷ [])
  one_more = take_more ms i (0, 0) l

  are_more : AreMerges count (take i ms ++ (merge_at ms i ∷ []))
  are_more = subst (AreMerges count) one_more (AreMerges-fewer count (i + 1) ms are)

  last : ((merge_at ms i).0 < count) × ((merge_at ms i).1 < count)
      × ((class_number (take i ms) (merge_at ms i).0 ≡ class_number (take i ms) (merge_at ms i).1)
      → ⊥)
  last = AreMerges-last count (take i ms) (merge_at ms i) are_more

  pub moved_told : IsTold count (take i ms)
  moved_told = are_told count (take i ms) (AreMerges-fewer count i ms are)

  abbrev small : ℕ
  small = class_number (take i ms) (merge_at ms i).0

  pub small_low : class_number (take i ms) (merge_at ms i).0 < count
  small_low = moved_told.low (merge_at ms i).0 last.0

  lost : class_number (take i ms ++ (merge_at ms i ∷ [])) small ≢ small
  lost e = (was_own count (take i ms) (merge_at ms i) moved_told last.0 last.1 last.2 small e).1
      refl

  pub members_of-gone : members_of ms (class_number (take i ms) (merge_at ms i).0) ≡ moved_by ms i
  members_of-gone =
      let whole : (take i ms ++ (merge_at ms i ∷ [])) ++ drop (i + 1) ms ≡ ms =
      ap (λ xs. xs ++ drop (i + 1) ms) (sym one_more) ∙ take-append-drop (i + 1) ms in
      ap (λ xs. members_of xs small) (sym whole)
      ∙ ((gone count (take i ms ++ (merge_at ms i ∷ [])) small lost (drop (i + 1) ms)
      (subst (AreMerges count) (sym whole) are)).1
      ∙ members_of-kept (take i ms) (merge_at ms i) small last.2)

  -- the nodes that a merge moved are those of the class that it did away with
  pub moved_exact : (n : ℕ) → Contains (moved_by ms i) n
      ↔ ((n < count) × (class_number (take i ms) n ≡ class_number (take i ms) (merge_at ms i).0))
  moved_exact n = moved_told.exact small n small_low (moved_told.still (merge_at ms i).0 last.0)

-- ---- what is read of the lists

module _ {V : Type 0} (f : V → List ℕ) (ms : List (ℕ × ℕ)) (roots absorbed : List ℕ) (vs : List V)
    (held : IsHeld ms roots (map f vs) absorbed) (i : ℕ) (l : i < length ms) (root : ℕ) (is : root
    ≡ get_or absorbed i 0) where
  noted : root ≡ class_number (take i ms) (merge_at ms i).0
  noted = is ∙ held.noted i l

  in_roots : root < length roots
  in_roots = omega (arith, noted, small_low (length roots) ms held.are i l)

  pub moved_low : root < length (map f vs)
  moved_low = omega (arith, in_roots, held.as_long)

  pub moved_read : (j : ℕ) (x : V) → j ≡ root → x ≡ get_or vs j x → f x ≡ moved_by ms i
  moved_read j x e read =
      read_list f vs j root x e (omega (arith, moved_low, length-map vs f)) read
      ∙ (held.listed root in_roots ∙ (ap (members_of ms) noted
      ∙ members_of-gone (length roots) ms held.are i l))

-- members are nodes
members_all : (count : ℕ) (ms : List (ℕ × ℕ)) → All (λ m. (m.0 < count) × (m.1 < count)) ms
    → (k : ℕ) → k < count → All (λ n. n < count) (members_of ms k)
members_all count =
    by_ends (λ ms. All (λ (m : ℕ × ℕ). (m.0 < count) × (m.1 < count)) ms → (k : ℕ) → k < count
    → All (λ n. n < count) (members_of ms k))
    (λ all k l. subst (λ xs. All (λ n. n < count) xs) (sym (members_of-none k))
    (All-one (λ n. n < count) k l))
    (λ ms m before all k l.
    let front = All-front (λ (n : ℕ × ℕ). (n.0 < count) × (n.1 < count)) ms m all in
    let there = All-last (λ (n : ℕ × ℕ). (n.0 < count) × (n.1 < count)) ms m all in
    let low : class_number ms m.0 < count = (class_number-beyond count ms front).0 m.0 there.0 in
    elim (cases_eq k (class_number ms m.1)) [
      | inl e ↦ subst (λ xs. All (λ n. n < count) xs) (sym (members_of-grown ms m k e))
          (All-append (λ n. n < count) (members_of ms k) (members_of ms (class_number ms m.0))
          (before front k l) (before front (class_number ms m.0) low))
      | inr ne ↦ subst (λ xs. All (λ n. n < count) xs) (sym (members_of-kept ms m k ne))
          (before front k l)
    ])

pub members_are : (count : ℕ) (ms : List (ℕ × ℕ)) → AreMerges count ms → (k : ℕ) → k < count
    → (i : ℕ) → i < length (members_of ms k) →
    get_or (members_of ms k) i 0 < count
members_are count ms are k l i il = All-get_or (λ n. n < count) (members_of ms k) i 0 il
    (members_all count ms are.there k l)
