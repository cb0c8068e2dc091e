-- Which nodes are bound to unknowns: they are the arithmetic ones.
use Rattle.std.proofs.Common.{◌≡◌, ◌⊎◌, inl, inr, ℕ, ◌<◌, Bool, true, false, cond, List, []}
use Rattle.std.proofs.Common.{◌∷◌, ◌++◌}
use Rattle.std.proofs.Common.{map, Some, None, refl, sym, ap, ap₂, ◌∙◌, subst, ◌==◌}
use Rattle.std.proofs.Common.{true≢false, eqb-true, ◌||◌}
use Rattle.std.specs.Prelude.{◌↔◌, IsTrue, Option, is_some}
use Rattle.std.specs.List.{Contains, find, list_any}
use Rattle.std.specs.Option.{option_map}
use Rattle.std.proofs.lemmas.Bool.{eq-eqb}
use Rattle.std.proofs.lemmas.List.Elements.{All-contains}
use Rattle.esc_term.specs.declared.term.Term.{Term}
use Rattle.esc_term.proofs.Members.{Contains-cases, Contains-here, Contains-later, Contains-none}
use Rattle.esc_egraph.specs.Graph.{Graph}
use Rattle.esc_cover.specs.Assignment.{Gap, gap}
use Rattle.esc_simplex.specs.Calls.{IsForTerm, both_gaps, gap_in}
use Rattle.esc_simplex.specs.Senses.{term, term_at}
use Rattle.esc_simplex.specs.View.{IsInUse, IsSimplex, bound_to, numbers_in}
use Rattle.esc_simplex.specs.declared.simplex.Simplex.{Simplex}
use Rattle.esc_sharing.specs.Nodes.{node_count, node_term}
use Rattle.esc_sharing.specs.Numbers.{AreNumbersOf, IsGapOf, IsNumber, nodes_of, number_terms}
use Rattle.esc_sharing.specs.Numbers.{with_number}
use Rattle.esc_sharing.proofs.Lists.{Contains-map}

-- ---- the unknown of a node among bound ones

module _ (pair : ℕ × ℕ) (pairs : List (ℕ × ℕ)) (a : ℕ) where
  bound_first : (pair.0 == a) ≡ true → bound_to (pair ∷ pairs) a ≡ Some pair.1
  bound_first is = ap (λ b. option_map (λ (p : ℕ × ℕ). p.1)
      (cond b (Some pair) (find (λ (p : ℕ × ℕ). p.0 == a) pairs))) is

  bound_rest : (pair.0 == a) ≡ false → bound_to (pair ∷ pairs) a ≡ bound_to pairs a
  bound_rest is = ap (λ b. option_map (λ (p : ℕ × ℕ). p.1)
      (cond b (Some pair) (find (λ (p : ℕ × ℕ). p.0 == a) pairs))) is

pub bound_pair : (pairs : List (ℕ × ℕ)) (a u : ℕ) → bound_to pairs a ≡ Some u
    → Contains pairs (a, u)
bound_pair [] a u e = absurd (cc)
bound_pair (pair ∷ pairs) a u e = go (bound_pair pairs a u) (pair.0 == a) refl
  where
    go : (bound_to pairs a ≡ Some u → Contains pairs (a, u)) → (b : Bool) → (pair.0 == a) ≡ b
        → Contains (pair ∷ pairs) (a, u)
    go rest true is =
        let node : pair.0 ≡ a = eqb-true pair.0 a is in
        let held = sym (bound_first pair pairs a is) ∙ e in
        let unknown : pair.1 ≡ u = cc in
        subst (Contains (pair ∷ pairs)) (ap₂ (λ n w. (n, w)) node unknown)
        (Contains-here pair pairs)
    go rest false is = Contains-later pair pairs (a, u)
        (rest (sym (bound_rest pair pairs a is) ∙ e))

-- by the numbers that the pairs are, whatever term an unknown has
module _ (term_for : ℕ → Term) where
  abbrev with_terms : List (ℕ × ℕ) → List (ℕ × Term)
  with_terms pairs = map (λ pair. (pair.0, term_for pair.1)) pairs

  pub bound_there : (pairs : List (ℕ × ℕ)) (a : ℕ) → IsNumber (with_terms pairs) a
      → (u : ℕ) × (bound_to pairs a ≡ Some u)
  bound_there [] a h = absurd (Contains-none a h)
  bound_there (pair ∷ pairs) a h =
      go (bound_there pairs a) (pair.0 == a) refl
      (Contains-cases pair.0 (nodes_of (with_terms pairs)) a h)
    where
      go : (IsNumber (with_terms pairs) a → (u : ℕ) × (bound_to pairs a ≡ Some u)) → (b : Bool)
          → (pair.0 == a) ≡ b → (pair.0 ≡ a) ⊎ Contains (nodes_of (with_terms pairs)) a
          → (u : ℕ) × (bound_to (pair ∷ pairs) a ≡ Some u)
      go rest true is cases = (pair.1, bound_first pair pairs a is)
      go rest false is (inl same) = absurd (true≢false (sym (eq-eqb pair.0 a same) ∙ is))
      go rest false is (inr later) =
          let found = rest later in
          (found.0, bound_rest pair pairs a is ∙ found.1)

-- ---- the arithmetic nodes with one more

abbrev is_at : ℕ → ℕ × Term → Bool
is_at a number = number.0 == a

some_at : (ns : List (ℕ × Term)) (a : ℕ) → IsNumber ns a → list_any (is_at a) ns ≡ true
some_at [] a h = absurd (Contains-none a h)
some_at (n ∷ ns) a h = go (some_at ns a) (n.0 == a) refl (Contains-cases n.0 (nodes_of ns) a h)
  where
    go : (IsNumber ns a → list_any (is_at a) ns ≡ true) → (b : Bool) → (n.0 == a) ≡ b
        → (n.0 ≡ a) ⊎ Contains (nodes_of ns) a → list_any (is_at a) (n ∷ ns) ≡ true
    go rest true is cases = ap (λ b. b || list_any (is_at a) ns) is
    go rest false is (inl same) = absurd (true≢false (sym (eq-eqb n.0 a same) ∙ is))
    go rest false is (inr later) = ap (λ b. b || list_any (is_at a) ns) is ∙ rest later

none_at : (ns : List (ℕ × Term)) (a : ℕ) → (IsNumber ns a → ⊥)
    → list_any (is_at a) ns ≡ false
none_at [] a h = refl
none_at (n ∷ ns) a h =
    go (none_at ns a (λ later. h (Contains-later n.0 (nodes_of ns) a later))) (n.0 == a) refl
  where
    go : list_any (is_at a) ns ≡ false → (b : Bool) → (n.0 == a) ≡ b
        → list_any (is_at a) (n ∷ ns) ≡ false
    go rest true is = absurd (h (subst (Contains (n.0 ∷ nodes_of ns)) (eqb-true n.0 a is)
        (Contains-here n.0 (nodes_of ns))))
    go rest false is = ap (λ b. b || list_any (is_at a) ns) is ∙ rest

pub with_number_there : (numbers : List (ℕ × Term)) (a : ℕ) (t : Term) → IsNumber numbers a
    → with_number numbers a t ≡ numbers
with_number_there numbers a t h =
    ap (λ b. cond b numbers (numbers ++ (a, t) ∷ [])) (some_at numbers a h)

pub with_number_new : (numbers : List (ℕ × Term)) (a : ℕ) (t : Term)
    → (IsNumber numbers a → ⊥) → with_number numbers a t ≡ numbers ++ (a, t) ∷ []
with_number_new numbers a t h =
    ap (λ b. cond b numbers (numbers ++ (a, t) ∷ [])) (none_at numbers a h)

-- ---- a bound node of a graph

module _ (v : Simplex) (a u : ℕ) (bound : Contains v.bound (a, u)) where
  abbrev number : ℕ × ℕ → ℕ × Term
  number pair = (pair.0, term_at v.made pair.1)

  listed : Contains (numbers_in v) (a, term_at v.made u)
  listed = Contains-map number v.bound (a, u) bound

  pub for_bound : IsSimplex v → IsForTerm v u
  for_bound h = All-contains (λ (pair : ℕ × ℕ). (t : Term) × IsInUse v pair.1 (term t)) v.bound
      (a, u) h.bound bound

  pub is_number : IsNumber (numbers_in v) a
  is_number = Contains-map (λ (n : ℕ × Term). n.0) (numbers_in v) (a, term_at v.made u) listed

  pub term_is_number : Contains (number_terms (numbers_in v)) (term_at v.made u)
  term_is_number = Contains-map (λ (n : ℕ × Term). n.1) (numbers_in v) (a, term_at v.made u) listed

  pub node_is_there : (g : Graph) → AreNumbersOf g (numbers_in v) → a < node_count g
  node_is_there g are = (All-contains
      (λ (n : ℕ × Term). (n.0 < node_count g) × (node_term g n.0 ≡ n.1)) (numbers_in v)
      (a, term_at v.made u) are listed).0

  pub term_of_node : (g : Graph) → AreNumbersOf g (numbers_in v)
      → node_term g a ≡ term_at v.made u
  term_of_node g are = (All-contains
      (λ (n : ℕ × Term). (n.0 < node_count g) × (node_term g n.0 ≡ n.1)) (numbers_in v)
      (a, term_at v.made u) are listed).1

module _ (g : Graph) (v : Simplex) (are : AreNumbersOf g (numbers_in v)) (a b u y : ℕ)
    (first : Contains v.bound (a, u)) (second : Contains v.bound (b, y)) where
  pub gap_of_nodes : (strict : Bool)
      → gap_in v u y strict ≡ gap (node_term g a) (node_term g b) strict
  gap_of_nodes strict = ap₂ (λ s t. gap s t strict) (sym (term_of_node v a u first g are))
      (sym (term_of_node v b y second g are))

  pub gap_of_numbers : (strict : Bool)
      → IsGapOf (number_terms (numbers_in v)) (gap_in v u y strict)
  gap_of_numbers strict = record {
    upper = term_is_number v a u first;
    lower = term_is_number v b y second;
  }

  pub both_of_numbers : (f : Gap) → Contains (both_gaps v u y) f
      → IsGapOf (number_terms (numbers_in v)) f
  both_of_numbers f h = go (Contains-cases (gap_in v u y false) (gap_in v y u false ∷ []) f h)
    where
      last : (gap_in v y u false ≡ f) ⊎ Contains [] f → IsGapOf (number_terms (numbers_in v)) f
      last (inl e) = subst (IsGapOf (number_terms (numbers_in v))) e (record {
        upper = term_is_number v b y second;
        lower = term_is_number v a u first;
      })
      last (inr none) = absurd (Contains-none f none)

      go : (gap_in v u y false ≡ f) ⊎ Contains (gap_in v y u false ∷ []) f
          → IsGapOf (number_terms (numbers_in v)) f
      go (inl e) = subst (IsGapOf (number_terms (numbers_in v))) e (gap_of_numbers false)
      go (inr later) = last (Contains-cases (gap_in v y u false) [] f later)

pub unbound_is_none : (v : Simplex) (a : ℕ) → bound_to v.bound a ≡ None
    → IsNumber (numbers_in v) a → ⊥
unbound_is_none v a none h =
    let found = bound_there (term_at v.made) v.bound a h in absurd (cc)

module _ (v : Simplex) (a : ℕ) where
  pub some_is_number : (o : Option ℕ) → o ≡ bound_to v.bound a → (b : Bool) → b ≡ is_some o
      → IsTrue b ↔ IsNumber (numbers_in v) a
  some_is_number (Some u) e b is = (
    λ h. is_number v a u (bound_pair v.bound a u (sym e)),
    λ h. is,
  )
  some_is_number None e b is = (
    λ h. absurd (true≢false (sym h ∙ is)),
    λ h. absurd (unbound_is_none v a (sym e) h),
  )

  pub none_when : (o : Option ℕ) → o ≡ bound_to v.bound a → (b : Bool) → b ≡ is_some o
      → b ≡ false → bound_to v.bound a ≡ None
  none_when (Some u) e b is off = absurd (true≢false (sym is ∙ off))
  none_when None e b is off = sym e
