-- Which lists of facts are legal for a base.
use Rattle.std.specs.Prelude.{◌≡◌, ◌≢◌, ℕ, Bool, true, false, not, IsTrue, List, [], ◌∷◌, ◌++◌}
use Rattle.std.specs.Prelude.{length, map, Some, slice_get}
use Rattle.std.specs.List.{All, AllPairs, Contains, cons_option, filter, flat_map, range_with_len}
use Rattle.std.specs.Option.{option_map}
use Rattle.esc_term.specs.declared.term.Term.{Term}
use Rattle.esc_term.specs.declared.formula.Formula.{Formula}
use Rattle.esc_term.specs.Formula.{is_closed, terms_of}
use Rattle.esc_cover.specs.Atoms.{atoms_of}
use Rattle.esc_fact.specs.Base.{Quantified, formulas_in, quantified_in}
use Rattle.esc_fact.specs.Fact.{IsFact, closed_at, formulas_of, store}
use Rattle.esc_fact.specs.declared.base.Base.{Base}
use Rattle.esc_fact.specs.declared.fact.Fact.{Fact}
use Rattle.esc_fact.specs.declared.fact.Fact.TheVariants as fact

-- each formula of the base is closed
abbrev pub IsClosedBase : Base → Type 0
IsClosedBase base = All (λ f. IsTrue (is_closed f)) (formulas_in base)

-- ---- what stands in facts

-- the term stands in a formula of the facts outside quantified formulas
abbrev pub HasTerm : Base → List Fact → Term → Type 0
HasTerm base facts t = Contains (flat_map terms_of (formulas_of base facts)) t

-- the formula is an atom of the facts, where the pairs of a distinction count
abbrev pub HasAtom : Base → List Fact → Formula → Type 0
HasAtom base facts f = Contains (flat_map atoms_of (formulas_of base facts)) f

-- the quantified formula with this number and these outer terms is an atom of the facts
abbrev pub HasQuantified : Base → List Fact → ℕ → List Term → Type 0
HasQuantified base facts number outer =
    (q : Quantified) × (slice_get (quantified_in base) number ≡ Some q)
    × HasAtom base facts (closed_at q outer)

-- ---- legal lists

-- the facts that name a formula of the base itself
abbrev pub first_facts : Base → List Fact
first_facts base =
    map fact.Given (range_with_len 0 (length base.background))
    ++ cons_option (option_map (λ f. fact.NegGoal) base.negated) []

abbrev pub is_first : Fact → Bool
is_first (fact.Given k) = true
is_first fact.NegGoal = true
is_first _ = false

-- what the fact is made of stands in the facts before it
abbrev pub IsDrawnFrom : Base → List Fact → Fact → Type 0
IsDrawnFrom base before (fact.Given k) = Unit {0}
IsDrawnFrom base before fact.NegGoal = Unit {0}
IsDrawnFrom base before (fact.Inst number outer terms) =
    HasQuantified base before number outer × All (HasTerm base before) terms
IsDrawnFrom base before (fact.Skolem number outer) = HasQuantified base before number outer
IsDrawnFrom base before (fact.Map1 m i x) = HasTerm base before (store m i x)
IsDrawnFrom base before (fact.Map2 m i x j) =
    HasTerm base before (store m i x) × HasTerm base before j

pub record IsLegal (base : Base) (facts : List Fact) : Type 0 where
  -- the base comes first, in order
  pub more : List Fact
  pub begins : facts ≡ first_facts base ++ more
  pub differ : AllPairs (λ a b. a ≢ b) facts
  pub are_facts : All (IsFact base) facts
  pub drawn : (before after : List Fact) (fact : Fact) → facts ≡ before ++ fact ∷ after
      → IsDrawnFrom base before fact

-- a front of a legal list
pub record IsLegalFront (base : Base) (facts : List Fact) : Type 0 where
  pub more : List Fact
  pub legal : IsLegal base (facts ++ more)

-- the facts besides those that name a formula of the base itself
abbrev pub made_facts : List Fact → List Fact
made_facts = filter (λ fact. not (is_first fact))
