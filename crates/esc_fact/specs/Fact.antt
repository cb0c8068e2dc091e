-- The formula of a fact.
use Rattle.std.specs.Prelude.{◌≡◌, ℕ, Bool, true, false, not, IsTrue, IsSome, List, [], ◌∷◌, ◌++◌}
use Rattle.std.specs.Prelude.{length, map, Option, Some, slice_get}
use Rattle.std.specs.List.{filter_map, list_all, range_with_len}
use Rattle.std.specs.Option.{option_map}
use Rattle.esc_term.specs.declared.term.Head.TheVariants.{Name, Skolem}
use Rattle.esc_term.specs.declared.term.Term.{Term}
use Rattle.esc_term.specs.declared.term.Term.TheVariants.{App}
use Rattle.esc_term.specs.declared.formula.Formula.{Formula}
use Rattle.esc_term.specs.declared.formula.Formula.TheVariants as formula
use Rattle.esc_term.specs.Formula.{substituted}
use Rattle.esc_term.specs.Term.{is_ground}
use Rattle.esc_fact.specs.Base.{Quantified, quantified_in, whole}
use Rattle.esc_fact.specs.declared.base.Base.{Base}
use Rattle.esc_fact.specs.declared.fact.Fact.{Fact}
use Rattle.esc_fact.specs.declared.fact.Fact.TheVariants as fact

-- ---- quantified formulas

-- the quantified formula with terms for the variables bound around it
abbrev pub closed_at : Quantified → List Term → Formula
closed_at q outer = substituted outer (whole q)

-- its body with terms for its own variables too
abbrev pub body_at : Quantified → List Term → List Term → Formula
body_at q outer terms = substituted (outer ++ terms) q.quant.body

-- what holds brings the part, or what fails brings that the part fails
abbrev pub brings : Bool → Formula → Formula → Formula
brings true f part = formula.Implies f part
brings false f part = formula.Implies (formula.Not f) (formula.Not part)

-- a universal formula that holds brings its body at any terms, and an existential one that fails
-- brings that the body fails
abbrev pub instance_of : Quantified → List Term → List Term → Formula
instance_of q outer terms = brings q.universal (closed_at q outer) (body_at q outer terms)

-- the terms that stand for the variables of the quantified formula with this number
abbrev pub skolem_terms : ℕ → Quantified → List Term → List Term
skolem_terms number q outer =
    map (λ i. App (Skolem number i) outer) (range_with_len 0 q.quant.count)

-- an existential formula that holds brings its body at terms of its own, and a universal one that
-- fails brings that the body fails
abbrev pub skolem_of : ℕ → Quantified → List Term → Formula
skolem_of number q outer =
    brings (not q.universal) (closed_at q outer) (body_at q outer (skolem_terms number q outer))

-- ---- maps

-- the value of the map at a place
abbrev pub select : Term → Term → Term
select m i = App (Name (record { 0 = 1 })) (m ∷ i ∷ [])

-- the map with a new value at a place
abbrev pub store : Term → Term → Term → Term
store m i x = App (Name (record { 0 = 2 })) (m ∷ i ∷ x ∷ [])

abbrev pub written_of : Term → Term → Term → Formula
written_of m i x = formula.Eq (select (store m i x) i) x

abbrev pub kept_of : Term → Term → Term → Term → Formula
kept_of m i x j =
    formula.Or (formula.Eq i j ∷ formula.Eq (select (store m i x) j) (select m j) ∷ [])

-- ---- facts

-- the formula of a fact over the base, where the fact names one
abbrev pub formula_of : Base → Fact → Option Formula
formula_of base (fact.Given k) = slice_get base.background k
formula_of base fact.NegGoal = base.negated
formula_of base (fact.Inst number outer terms) =
    option_map (λ q. instance_of q outer terms) (slice_get (quantified_in base) number)
formula_of base (fact.Skolem number outer) =
    option_map (λ q. skolem_of number q outer) (slice_get (quantified_in base) number)
formula_of base (fact.Map1 m i x) = Some (written_of m i x)
formula_of base (fact.Map2 m i x j) = Some (kept_of m i x j)

abbrev pub formulas_of : Base → List Fact → List Formula
formulas_of base = filter_map (formula_of base)

-- the terms that a fact names
abbrev pub terms_of_fact : Fact → List Term
terms_of_fact (fact.Given k) = []
terms_of_fact fact.NegGoal = []
terms_of_fact (fact.Inst number outer terms) = outer ++ terms
terms_of_fact (fact.Skolem number outer) = outer
terms_of_fact (fact.Map1 m i x) = m ∷ i ∷ x ∷ []
terms_of_fact (fact.Map2 m i x j) = m ∷ i ∷ x ∷ j ∷ []

-- the terms are as many as the quantified formula needs
abbrev pub HasCounts : Base → Fact → Type 0
HasCounts base (fact.Inst number outer terms) =
    (q : Quantified) → slice_get (quantified_in base) number ≡ Some q
    → (length outer ≡ q.outer) × (length terms ≡ q.quant.count)
HasCounts base (fact.Skolem number outer) =
    (q : Quantified) → slice_get (quantified_in base) number ≡ Some q → length outer ≡ q.outer
HasCounts base _ = Unit {0}

-- the fact names a formula of the base, and its terms are ground and as many as its formula needs
pub record IsFact (base : Base) (fact : Fact) : Type 0 where
  pub named : IsSome (formula_of base fact)
  pub counts : HasCounts base fact
  pub grounded : IsTrue (list_all is_ground (terms_of_fact fact))
