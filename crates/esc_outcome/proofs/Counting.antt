-- How many different occurrences formulas have.
use Rattle.std.proofs.Common.{◌≡◌, ◌≢◌, ℕ, zero, suc, ◌<◌, ◌≤◌, ◌+◌, true, false, ◌&&◌, List, []}
use Rattle.std.proofs.Common.{◌∷◌, Option, Some, None, length, map, get_or, refl, sym, ap, ap₂}
use Rattle.std.proofs.Common.{subst, subst₂, ◌∙◌, arith, eq-eqb, true≢false}
use Rattle.std.specs.Prelude.{IsSome, slice_get}
use Rattle.std.specs.List.{All, AllPairs}
use Rattle.std.specs.Option.{option_and_then}
use Rattle.std.proofs.lemmas.Bool.Decides.{Decides-eqb}
use Rattle.std.proofs.lemmas.List.{get_or-map, length-map}
use Rattle.std.proofs.lemmas.List.Sums.{sum_by-cons}
use Rattle.std.proofs.lemmas.List.Elements.{All-contains, All-map, All-weaker}
use Rattle.std.proofs.lemmas.Map.Made.{IsDistinct-from_AllPairs}
use Rattle.std.proofs.lemmas.Map.Steps.{length-le_from_distinct_below}
use Rattle.std.proofs.lemmas.Map.Views.{Contains-from_any}
use Rattle.std.proofs.lemmas.Option.{slice_get_within}
use Rattle.esc_term.specs.declared.formula.Formula.{Formula}
use Rattle.esc_clause.specs.Occurrences.{occurrences_of, size_of}
use Rattle.esc_clause.specs.Refinement.{is_same_place}
use Rattle.esc_clause.specs.declared.occurrence.Occurrence.{Occurrence}
use Rattle.esc_outcome.specs.Tree.{AreDifferent, IsOccurrence}
use Rattle.esc_outcome.specs.TreeLaws.{occurrences_in}

-- numbers below n of which no two are equal are at most n
pub few_below : (ns : List ℕ) (n : ℕ) → AllPairs (λ a b. a ≢ b) ns → All (λ a. a < n) ns
    → length ns ≤ n
few_below ns n apart below =
    length-le_from_distinct_below ns n (IsDistinct-from_AllPairs Decides-eqb ns apart)
    (λ q h. All-contains (λ a. a < n) ns q below
    (Contains-from_any (λ a b. (Decides-eqb a b).0) q ns h))

-- ---- the number of an occurrence

number : List Formula → ℕ → ℕ → ℕ
number [] k p = p
number (f ∷ fs) zero p = p
number (f ∷ fs) (suc k) p = size_of f + number fs k p

-- a formula at a place, and a place in it
record IsPlaceIn (fs : List Formula) (k p : ℕ) : Type 0 where
  of : Formula
  there : slice_get fs k ≡ Some of
  inside : p < size_of of

some_same : {X : Type 0} (x y : X) → (let o : Option X = Some x in o) ≡ Some y → x ≡ y
some_same x y e = cc

number_below : (fs : List Formula) (k p : ℕ) → IsPlaceIn fs k p
    → number fs k p < occurrences_in fs
unfolding number
number_below [] k p is = absurd (cc)
number_below (f ∷ fs) zero p is =
    let all = sum_by-cons size_of f fs in
    let inside : p < size_of f =
    subst (λ g. p < size_of g) (sym (some_same f is.of is.there)) is.inside in
    omega (arith, all, inside)
number_below (f ∷ fs) (suc k) p is =
    let all = sum_by-cons size_of f fs in
    let later = number_below fs k p (record { of = is.of; there = is.there; inside = is.inside }) in
    omega (arith, all, later)

number_apart : (fs : List Formula) (k p l q : ℕ) → IsPlaceIn fs k p → IsPlaceIn fs l q
    → number fs k p ≡ number fs l q → (k ≡ l) × (p ≡ q)
unfolding number
number_apart [] k p l q is js same = absurd (cc)
number_apart (f ∷ fs) zero p zero q is js same = (refl, same)
number_apart (f ∷ fs) zero p (suc l) q is js same =
    let inside : p < size_of f =
    subst (λ g. p < size_of g) (sym (some_same f is.of is.there)) is.inside in
    absurd (omega (arith, same, inside))
number_apart (f ∷ fs) (suc k) p zero q is js same =
    let inside : q < size_of f =
    subst (λ g. q < size_of g) (sym (some_same f js.of js.there)) js.inside in
    absurd (omega (arith, same, inside))
number_apart (f ∷ fs) (suc k) p (suc l) q is js same =
    let later = number_apart fs k p l q
    (record { of = is.of; there = is.there; inside = is.inside })
    (record { of = js.of; there = js.there; inside = js.inside }) (omega (arith, same)) in
    (ap suc later.0, later.1)

-- ---- different occurrences

place_of : (fs : List Formula) (at : Occurrence) → IsOccurrence fs at
    → IsPlaceIn fs at.fact at.place
place_of fs at h = go (slice_get fs at.fact) refl h
  where
    inside : (f : Formula) → slice_get fs at.fact ≡ Some f → (o : Option Formula)
        → slice_get (occurrences_of f) at.place ≡ o → IsSome o → IsPlaceIn fs at.fact at.place
    inside f is None e some = absurd (cc)
    inside f is (Some g) e some =
        record { of = f; there = is; inside = slice_get_within (occurrences_of f) at.place g e }

    go : (o : Option Formula) → slice_get fs at.fact ≡ o
        → IsSome (option_and_then (λ f. slice_get (occurrences_of f) at.place) o)
        → IsPlaceIn fs at.fact at.place
    go None e some = absurd (cc)
    go (Some f) e some = inside f e (slice_get (occurrences_of f) at.place) refl some

numbers_differ : (fs : List Formula) (a b : Occurrence) → IsOccurrence fs a → IsOccurrence fs b
    → is_same_place a b ≡ false → number fs a.fact a.place ≢ number fs b.fact b.place
numbers_differ fs a b is js apart same =
    let both = number_apart fs a.fact a.place b.fact b.place (place_of fs a is) (place_of fs b js)
    same in
    true≢false (sym (ap₂ (λ x y. x && y) (eq-eqb a.fact b.fact both.0)
    (eq-eqb a.place b.place both.1)) ∙ apart)

-- what holds of any two elements holds of any two images
pub AllPairs-map : {X Y : Type 0} (f : X → Y) (P : X → Type 0) (R : X → X → Type 0)
    (S : Y → Y → Type 0) → ((x y : X) → P x → P y → R x y → S (f x) (f y)) → X
    → (xs : List X) → All P xs → AllPairs R xs → AllPairs S (map f xs)
AllPairs-map f P R S step e xs all pairs i j d before below =
    let later : j < length xs = omega (arith, below, length-map xs f) in
    let first : i < length xs = omega (arith, later, before) in
    subst₂ S (sym (get_or-map f xs i e d first)) (sym (get_or-map f xs j e d later))
    (step (get_or xs i e) (get_or xs j e) (all i e first) (all j e later)
    (pairs i j e before later))

-- different occurrences are no more than there are
pub different_few : (fs : List Formula) (ats : List Occurrence) → AreDifferent ats
    → All (IsOccurrence fs) ats → length ats ≤ occurrences_in fs
different_few fs ats different occur =
    let numbered = λ (at : Occurrence). number fs at.fact at.place in
    let few = few_below (map numbered ats) (occurrences_in fs)
    (AllPairs-map numbered (IsOccurrence fs) (λ a b. is_same_place a b ≡ false) (λ m n. m ≢ n)
    (numbers_differ fs) (record { fact = 0; place = 0; positive = true }) ats occur different)
    (All-map (λ n. n < occurrences_in fs) numbered ats
    (All-weaker (IsOccurrence fs) (λ (at : Occurrence). numbered at < occurrences_in fs)
    (λ at h. number_below fs at.fact at.place (place_of fs at h)) ats occur)) in
    omega (arith, length-map ats numbered, few)
