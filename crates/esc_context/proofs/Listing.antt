-- Numbers in rising order, and the terms that they stand for: those of a list that pass a test.
use Rattle.std.proofs.Common.{◌≡◌, ℕ, suc, ◌+◌, ◌<◌, ◌≤◌, ◌↔◌, ◌==◌, Bool, true, false, cond, List}
use Rattle.std.proofs.Common.{[], ◌∷◌, inl, inr, length, get_or, map, refl, ap, sym, ◌∙◌, arith}
use Rattle.std.specs.List.{All, Contains, filter}
use Rattle.std.specs.List.Sorted.{IsNonDecreasing, IsPermutation, IsStrictlyIncreasing}
use Rattle.std.proofs.lemmas.Bool.{cases_eq, eq-eqb, ne_eqb}
use Rattle.std.proofs.lemmas.List.{get_or_default}
use Rattle.std.proofs.lemmas.List.Elements.{Contains-get_or}
use Rattle.std.proofs.lemmas.List.Sorted.{Contains-permutation, IsPermutation-sym}
use Rattle.std.proofs.lemmas.Map.Keys.{IsDistinct-IsPermutation, IsDistinct-from_apart}
use Rattle.std.proofs.lemmas.Map.Keys.{IsStrictlyIncreasing-from_distinct, below_from_sorted}
use Rattle.std.proofs.lemmas.Map.Keys.{sorted_from_strictly_increasing}
use Rattle.esc_union.specs.Merges.{IsClassOf}
use Rattle.esc_term.proofs.Members.{Contains-cases, Contains-later, Contains-none}
use Rattle.esc_term.specs.declared.term.Term.{Term}
use Rattle.esc_cover.proofs.TestLemmas.{not_both}

-- each number is above those before it
abbrev pub AreRising : List ℕ → Type 0
AreRising xs = (i j : ℕ) → i < j → j < length xs → get_or xs i 0 < get_or xs j 0

rising_tail : (x : ℕ) (xs : List ℕ) → AreRising (x ∷ xs) → AreRising xs
rising_tail x xs rises i j before l = rises (suc i) (suc j) (omega (arith, before))
    (omega (arith, l))

rising_above : (x : ℕ) (xs : List ℕ) → AreRising (x ∷ xs) → (y : ℕ) → Contains xs y → x < y
rising_above x xs rises y (k, l, e) =
    let above : x < get_or xs k 0 = rises 0 (suc k) (omega arith) (omega (arith, l)) in
    omega (arith, above, get_or_default xs k 0 y l, e)

-- ---- the members of a class, sorted

flips : (a b : ℕ) → (a == b) ≡ (b == a)
flips a b = elim (cases_eq a b) [
  | inl e ↦ eq-eqb a b e ∙ sym (eq-eqb b a (sym e))
  | inr ne ↦ ne_eqb a b ne ∙ sym (ne_eqb b a (λ e. ne (sym e)))
]

pub rising : (xs : List ℕ) → IsStrictlyIncreasing xs → AreRising xs
rising xs up i j before l =
    below_from_sorted xs i j 0 (sorted_from_strictly_increasing xs up) before l

pub class_there : (count : ℕ) (number : ℕ → ℕ) (a : ℕ) (xs : List ℕ) → IsClassOf count number a xs →
    All (λ n. n < count) xs
class_there count number a xs is k d l = ((is.exact (get_or xs k d)).0 (Contains-get_or xs k d l)).0

module _ (count : ℕ) (number : ℕ → ℕ) (a : ℕ) (xs ys : List ℕ) (is : IsClassOf count number a xs)
    (moved : IsPermutation xs ys) (sorted : IsNonDecreasing ys) where
  pub class_rises : IsStrictlyIncreasing ys
  class_rises =
      IsStrictlyIncreasing-from_distinct ys sorted
      (IsDistinct-IsPermutation (λ a b. a == b) flips xs ys moved
      (IsDistinct-from_apart (λ a b. a == b) xs (λ i j d before l.
      ne_eqb (get_or xs i d) (get_or xs j d)
      (λ e. is.once i j before l (get_or_default xs i 0 d (omega (arith, before, l))
      ∙ (e ∙ get_or_default xs j d 0 l))))))

  pub class_moved : IsClassOf count number a ys
  class_moved = record {
    exact = λ n. (
      λ has. (is.exact n).0 (Contains-permutation ys xs n (IsPermutation-sym xs ys moved) has),
      λ in_class. Contains-permutation xs ys n moved ((is.exact n).1 in_class),
    );
    once = λ i j before l e. omega (arith, rising ys class_rises i j before l, e);
  }

-- ---- the terms of the numbers

module _ (f : ℕ → Term) (p : Term → Bool) where
  -- the numbers are those from `lo` on, one for each term of the list, whose terms pass the test
  abbrev pub Picks : List Term → ℕ → List ℕ → Type 0
  Picks ts lo xs = (x : ℕ) → Contains xs x ↔ ((lo ≤ x) × (x < lo + length ts) × (p (f x) ≡ true))

  pub map-picked : (ts : List Term) (lo : ℕ) (xs : List ℕ) →
      ((k : ℕ) (d : Term) → k < length ts → f (lo + k) ≡ get_or ts k d) →
      AreRising xs → Picks ts lo xs → map f xs ≡ filter p ts
  map-picked [] lo [] at rises picks = refl
  map-picked [] lo (x ∷ xs) at rises picks =
      let found = (picks x).0 (0, omega arith, refl) in
      absurd (omega (arith, found.0, found.1))
  map-picked (t ∷ ts) lo xs at rises picks =
      go (p t) refl xs rises picks (λ ys up some. map-picked ts (lo + 1) ys later up some)
    where
      here : f lo ≡ t
      here = ap f (omega arith) ∙ at 0 t (omega arith)

      later : (k : ℕ) (d : Term) → k < length ts → f (lo + 1 + k) ≡ get_or ts k d
      later k d l = ap f (omega arith) ∙ at (suc k) d (omega (arith, l))

      go : (b : Bool) → p t ≡ b → (xs : List ℕ) → AreRising xs → Picks (t ∷ ts) lo xs →
          ((ys : List ℕ) → AreRising ys → Picks ts (lo + 1) ys → map f ys ≡ filter p ts) →
          map f xs ≡ cond b (t ∷ filter p ts) (filter p ts)
      go true e [] rises picks rest =
          absurd (Contains-none lo ((picks lo).1 (omega arith, omega arith, ap p here ∙ e)))
      go true e (x ∷ xs) rises picks rest =
          let low : lo ≤ x = ((picks x).0 (0, omega arith, refl)).0 in
          let first : x ≡ lo =
          elim (Contains-cases x xs lo ((picks lo).1 (omega arith, omega arith, ap p here ∙ e))) [
            | inl is ↦ is
            | inr after ↦ absurd (omega (arith, low, rising_above x xs rises lo after))
          ] in
          ap (λ y. f y ∷ map f xs) first
          ∙ (ap (λ u. u ∷ map f xs) here
          ∙ ap (λ us. t ∷ us) (rest xs (rising_tail x xs rises) (λ y. (
            (λ has.
                let above : x < y = rising_above x xs rises y has in
                let range = (picks y).0 (Contains-later x xs y has) in
                (omega (arith, above, first), omega (arith, range.1), range.2)),
            (λ range. elim
                (Contains-cases x xs y
                ((picks y).1 (omega (arith, range.0), omega (arith, range.1), range.2))) [
                  | inl is ↦ absurd (omega (arith, is, first, range.0))
                  | inr has ↦ has
                ]),
          ))))
      go false e xs rises picks rest = rest xs rises (λ y. (
        (λ has.
            let range = (picks y).0 has in
            elim (cases_eq lo y) [
              | inl is ↦ absurd (not_both (p t) (ap p (sym here ∙ ap f is) ∙ range.2) e)
              | inr ne ↦ (omega (arith, range.0, ne), omega (arith, range.1), range.2)
            ]),
        (λ range. (picks y).1 (omega (arith, range.0), omega (arith, range.1), range.2)),
      ))
