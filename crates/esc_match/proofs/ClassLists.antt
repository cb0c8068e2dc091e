-- The nodes of a class in the order of making, and all nodes.
use Rattle.std.proofs.Common.{◌≡◌, ℕ, zero, suc, ◌+◌, ◌<◌, ◌==◌, Bool, inl, inr, List, []}
use Rattle.std.proofs.Common.{◌∷◌, ◌++◌}
use Rattle.std.proofs.Common.{length, get_or, refl, ap, sym, subst, ◌∙◌, arith}
use Rattle.std.specs.List.{All, Contains, filter}
use Rattle.std.specs.List.Sorted.{IsNonDecreasing, IsPermutation, IsStrictlyIncreasing}
use Rattle.std.proofs.lemmas.Bool.{cases_eq, eq-eqb, eqb-true, ne_eqb}
use Rattle.std.proofs.lemmas.List.{get_or_default}
use Rattle.std.proofs.lemmas.List.Elements.{All-filter, Contains-append_left, Contains-get_or}
use Rattle.std.proofs.lemmas.List.Elements.{Contains-push, Contains-push_cases}
use Rattle.std.proofs.lemmas.List.Sorted.{Contains-permutation, IsPermutation-sym}
use Rattle.std.proofs.lemmas.Map.Keys.{IsDistinct-IsPermutation, IsDistinct-from_apart}
use Rattle.std.proofs.lemmas.Map.Keys.{IsStrictlyIncreasing-from_distinct, below_from_sorted}
use Rattle.std.proofs.lemmas.Map.Keys.{sorted_from_strictly_increasing}
use Rattle.esc_union.specs.Merges.{IsClassOf, SameClass}
use Rattle.esc_term.proofs.Members.{Contains-cases, Contains-none}
use Rattle.esc_cover.proofs.TestLemmas.{kept, of_kept}
use Rattle.esc_nodes.specs.Nodes.{shape_at}
use Rattle.esc_nodes.specs.declared.top.Top.{Top}
use Rattle.esc_egraph.specs.Graph.{Graph, number_of}
use Rattle.esc_match.specs.CandidatesInside.{class_list, has_top, numbers_below, same_top-is}
use Rattle.esc_match.proofs.Orders.{InOrder, in_order-append, in_order-filter, same_rising}

-- ---- the numbers below one

pub below_more : (n : ℕ) → numbers_below (suc n) ≡ numbers_below n ++ n ∷ []
unfolding numbers_below
below_more n = refl

pub below_none : numbers_below 0 ≡ []
unfolding numbers_below
below_none = refl

pub below_next : (n : ℕ) (xs : List ℕ) → xs ≡ numbers_below n
    → xs ++ n ∷ [] ≡ numbers_below (n + 1)
below_next n xs e =
    ap (λ ys. ys ++ n ∷ []) e ∙ (sym (below_more n) ∙ ap numbers_below (omega arith))

pub below_of : (n m : ℕ) → Contains (numbers_below n) m → m < n
below_of zero m h = absurd (Contains-none m (subst (λ xs. Contains xs m) below_none h))
below_of (suc n) m h =
    elim (Contains-push_cases (numbers_below n) n m
    (subst (λ xs. Contains xs m) (below_more n) h)) [
      | inl before ↦ omega (arith, below_of n m before)
      | inr e ↦ omega (arith, e)
    ]

pub below_has : (n m : ℕ) → m < n → Contains (numbers_below n) m
below_has zero m l = absurd (omega (arith, l))
below_has (suc n) m l =
    subst (λ xs. Contains xs m) (sym (below_more n)) (elim (cases_eq m n) [
      | inl e ↦ subst (Contains (numbers_below n ++ n ∷ [])) (sym e)
          (Contains-push (numbers_below n) n)
      | inr ne ↦ Contains-append_left (numbers_below n) (n ∷ []) m
          (below_has n m (omega (arith, l, ne)))
    ])

pub below_rises : (n : ℕ) → InOrder (λ a b. a < b) (numbers_below n)
below_rises zero = subst (InOrder (λ a b. a < b)) (sym below_none) tt
below_rises (suc n) =
    subst (InOrder (λ a b. a < b)) (sym (below_more n))
    (in_order-append (λ a b. a < b) (numbers_below n) (n ∷ []) (below_rises n)
    (λ y h. absurd (Contains-none y h), tt)
    (λ a b ha hb. elim (Contains-cases n [] b hb) [
      | inl e ↦ omega (arith, below_of n a ha, e)
      | inr none ↦ absurd (Contains-none b none)
    ]))

pub below_there : (count : ℕ) (xs : List ℕ) → xs ≡ numbers_below count → All (λ m. m < count) xs
below_there count xs e =
    subst (All (λ m. m < count)) (sym e) (λ k d l. below_of count (get_or (numbers_below count) k d)
    (Contains-get_or (numbers_below count) k d l))

pub ruleset below = (below_none, below_next, below_there)

pub kept_there : (count : ℕ) (p : ℕ → Bool) (ns ks : List ℕ) → ks ≡ filter p ns
    → All (λ m. m < count) ns → All (λ m. m < count) ks
kept_there count p ns ks e all =
    subst (All (λ m. m < count)) (sym e) (All-filter p (λ m. m < count) ns all)

-- ---- sorted members of a class

abbrev AreRising : List ℕ → Type 0
AreRising xs = (i j : ℕ) → i < j → j < length xs → get_or xs i 0 < get_or xs j 0

rising_tail : (x : ℕ) (xs : List ℕ) → AreRising (x ∷ xs) → AreRising xs
rising_tail x xs rises i j before l = rises (suc i) (suc j) (omega (arith, before))
    (omega (arith, l))

rising_above : (x : ℕ) (xs : List ℕ) → AreRising (x ∷ xs) → (y : ℕ) → Contains xs y → x < y
rising_above x xs rises y (k, l, e) =
    let above : x < get_or xs k 0 = rises 0 (suc k) (omega arith) (omega (arith, l)) in
    omega (arith, above, get_or_default xs k 0 y l, e)

rising_order : (xs : List ℕ) → AreRising xs → InOrder (λ a b. a < b) xs
rising_order [] rises = tt
rising_order (x ∷ xs) rises = (rising_above x xs rises, rising_order xs (rising_tail x xs rises))

flips : (a b : ℕ) → (a == b) ≡ (b == a)
flips a b = elim (cases_eq a b) [
  | inl e ↦ eq-eqb a b e ∙ sym (eq-eqb b a (sym e))
  | inr ne ↦ ne_eqb a b ne ∙ sym (ne_eqb b a (λ e. ne (sym e)))
]

module _ (count : ℕ) (number : ℕ → ℕ) (a : ℕ) (xs ys : List ℕ) (is : IsClassOf count number a xs)
    (moved : IsPermutation xs ys) (sorted : IsNonDecreasing ys) where
  class_rises : IsStrictlyIncreasing ys
  class_rises =
      IsStrictlyIncreasing-from_distinct ys sorted
      (IsDistinct-IsPermutation (λ a b. a == b) flips xs ys moved
      (IsDistinct-from_apart (λ a b. a == b) xs (λ i j d before l.
      ne_eqb (get_or xs i d) (get_or xs j d)
      (λ e. is.once i j before l (get_or_default xs i 0 d (omega (arith, before, l))
      ∙ (e ∙ get_or_default xs j d 0 l))))))

  class_order : InOrder (λ a b. a < b) ys
  class_order = rising_order ys (λ i j before l.
      below_from_sorted ys i j 0 (sorted_from_strictly_increasing ys class_rises) before l)

  class_is : ys ≡ filter (λ m. number m == number a) (numbers_below count)
  class_is =
      same_rising ys (filter (λ m. number m == number a) (numbers_below count)) class_order
      (in_order-filter (λ a b. a < b) (λ m. number m == number a) (numbers_below count)
      (below_rises count))
      (λ n h.
      let found =
      (is.exact n).0 (Contains-permutation ys xs n (IsPermutation-sym xs ys moved) h) in
      kept (λ m. number m == number a) (numbers_below count) n (below_has count n found.0)
      (eq-eqb (number n) (number a) found.1))
      (λ n h.
      let found = of_kept (λ m. number m == number a) (numbers_below count) n h in
      Contains-permutation xs ys n moved
      ((is.exact n).1 (below_of count n found.0, eqb-true (number n) (number a) found.1)))

pub class_listed : (g : Graph) (n : ℕ) (xs ys : List ℕ)
    → IsClassOf (length g.nodes) (number_of g) n xs → IsPermutation xs ys → IsNonDecreasing ys
    → ys ≡ class_list g n
class_listed g n xs ys is moved sorted =
    class_is (length g.nodes) (number_of g) n xs ys is moved sorted

pub class_there : (g : Graph) (n : ℕ) (xs : List ℕ) → xs ≡ class_list g n
    → All (λ m. m < length g.nodes) xs
class_there g n xs e =
    kept_there (length g.nodes) (λ m. number_of g m == number_of g n)
    (numbers_below (length g.nodes)) xs e
    (below_there (length g.nodes) (numbers_below (length g.nodes)) refl)

-- ---- candidates

-- the nodes that have a top, of the class of a node and of all
abbrev pub class_candidates : Graph → Top → ℕ → List ℕ
class_candidates g t n = filter (has_top g t) (class_list g n)

abbrev pub all_candidates : Graph → Top → List ℕ
all_candidates g t = filter (has_top g t) (numbers_below (length g.nodes))

module _ (g : Graph) (t : Top) where
  pub class_candidate : (n m : ℕ) → Contains (class_candidates g t n) m
      → (m < length g.nodes) × ((shape_at g.nodes m).top ≡ t) × SameClass (number_of g) m n
  class_candidate n m h =
      let topped = of_kept (has_top g t) (class_list g n) m h in
      let found = of_kept (λ k. number_of g k == number_of g n) (numbers_below (length g.nodes)) m
      topped.0 in (
        below_of (length g.nodes) m found.0,
        sym ((same_top-is t (shape_at g.nodes m).top).0 topped.1),
        eqb-true (number_of g m) (number_of g n) found.1,
      )

  pub class_candidate_found : (n m : ℕ) → m < length g.nodes → (shape_at g.nodes m).top ≡ t
      → SameClass (number_of g) m n → Contains (class_candidates g t n) m
  class_candidate_found n m l is same =
      kept (has_top g t) (class_list g n) m
      (kept (λ k. number_of g k == number_of g n) (numbers_below (length g.nodes)) m
      (below_has (length g.nodes) m l) (eq-eqb (number_of g m) (number_of g n) same))
      ((same_top-is t (shape_at g.nodes m).top).1 (sym is))

  pub class_candidates_rise : (n : ℕ) → InOrder (λ a b. a < b) (class_candidates g t n)
  class_candidates_rise n =
      in_order-filter (λ a b. a < b) (has_top g t) (class_list g n)
      (in_order-filter (λ a b. a < b) (λ k. number_of g k == number_of g n)
      (numbers_below (length g.nodes)) (below_rises (length g.nodes)))

  pub candidate : (m : ℕ) → Contains (all_candidates g t) m
      → (m < length g.nodes) × ((shape_at g.nodes m).top ≡ t)
  candidate m h =
      let found = of_kept (has_top g t) (numbers_below (length g.nodes)) m h in (
        below_of (length g.nodes) m found.0,
        sym ((same_top-is t (shape_at g.nodes m).top).0 found.1),
      )

  pub candidate_found : (m : ℕ) → m < length g.nodes → (shape_at g.nodes m).top ≡ t
      → Contains (all_candidates g t) m
  candidate_found m l is =
      kept (has_top g t) (numbers_below (length g.nodes)) m (below_has (length g.nodes) m l)
      ((same_top-is t (shape_at g.nodes m).top).1 (sym is))

  pub candidates_rise : InOrder (λ a b. a < b) (all_candidates g t)
  candidates_rise =
      in_order-filter (λ a b. a < b) (has_top g t) (numbers_below (length g.nodes))
      (below_rises (length g.nodes))
