-- By which number and outer terms a quantified formula goes: those of its first occurrence.
use Rattle.std.specs.Prelude.{ℕ, suc, Bool, true, false, Option, List, [], ◌∷◌, ◌++◌, length, map}
use Rattle.std.specs.Prelude.{take, slice_get}
use Rattle.std.specs.List.{enumerate_from, filter, find, flat_map}
use Rattle.std.specs.Option.{option_map_or}
use Rattle.esc_term.specs.declared.term.Term.{Term}
use Rattle.esc_term.specs.declared.formula.Formula.{Formula}
use Rattle.esc_term.specs.declared.formula.Formula.TheOpen.{Formula-F, Quant-F}
use Rattle.esc_term.specs.declared.formula.Formula.TheFolds.{para-Formula}
use Rattle.esc_term.specs.declared.formula.Quant.{Quant}
use Rattle.esc_term.specs.Equal.{same_formula}
use Rattle.esc_fact.specs.Base.{Quantified, formulas_in, quantified_in, quantified_under}
use Rattle.esc_fact.specs.Fact.{closed_at, skolem_terms}
use Rattle.esc_fact.specs.declared.base.Base.{Base}
use Rattle.esc_fact.specs.declared.fact.Fact.{Fact}
use Rattle.esc_fact.specs.declared.fact.Fact.TheVariants as fact

-- the number of a quantified formula, and the terms for the variables bound around it
pub record Origin : Type 0 where
  pub number : ℕ
  pub outer : List Term

abbrev pub is_origin_of : Base → Formula → Origin → Bool
is_origin_of base f origin =
    option_map_or (λ q. same_formula (closed_at q origin.outer) f)
    (slice_get (quantified_in base) origin.number) false

abbrev pub outermost_step : Formula-F (Formula × List Bool) (Quant × List Bool) → List Bool
outermost_step Formula-F.True = []
outermost_step Formula-F.False = []
outermost_step (Formula-F.And parts) = flat_map (λ part. part.1) parts
outermost_step (Formula-F.Or parts) = flat_map (λ part. part.1) parts
outermost_step (Formula-F.Not part) = part.1
outermost_step (Formula-F.Implies left right) = left.1 ++ right.1
outermost_step (Formula-F.Iff left right) = left.1 ++ right.1
outermost_step (Formula-F.Forall quant) = true ∷ map (λ inside. false) quant.1
outermost_step (Formula-F.Exists quant) = true ∷ map (λ inside. false) quant.1
outermost_step (Formula-F.Eq left right) = []
outermost_step (Formula-F.Less left right) = []
outermost_step (Formula-F.Distinct terms) = []
outermost_step (Formula-F.LabelPos name part) = part.1
outermost_step (Formula-F.LabelNeg name part) = part.1

abbrev pub outermost_quant_step : Quant-F (Formula × List Bool) (Quant × List Bool) → List Bool
outermost_quant_step quant = quant.body.1

-- for each of the quantified formulas in a formula, in their order, whether it stands outside all
-- others
unfoldable pub outermost : Formula → List Bool
outermost = para-Formula (List Bool) (List Bool) outermost_step outermost_quant_step

-- The origins of the quantified formulas in a formula outside other ones, where these terms stand
-- for the variables bound around it and the first quantified formula in it has this number.
abbrev pub origins_from : ℕ → List Term → Formula → List Origin
origins_from start outer f =
    map (λ place. record { number = place.0; outer = outer })
    (filter (λ place. place.1) (enumerate_from start (outermost f)))

-- those in the formula at a place of the base
abbrev pub origins_at : Base → ℕ → List Origin
origins_at base k =
    option_map_or
    (origins_from (length (flat_map (λ f. quantified_under f 0) (take k (formulas_in base)))) [])
    (slice_get (formulas_in base) k) []

-- that of the formula itself, and those in its body at these terms
abbrev pub origins_inside : ℕ → List Term → List Term → Quantified → List Origin
origins_inside number outer terms q =
    record { number = number; outer = outer }
    ∷ origins_from (suc number) (outer ++ terms) q.quant.body

-- the origins of the quantified formulas that are atoms of a fact, from the front
abbrev pub origins_in : Base → Fact → List Origin
origins_in base (fact.Given k) = origins_at base k
origins_in base fact.NegGoal = origins_at base (length base.background)
origins_in base (fact.Inst n us ts) =
    option_map_or (origins_inside n us ts) (slice_get (quantified_in base) n) []
origins_in base (fact.Skolem n us) =
    option_map_or (λ q. origins_inside n us (skolem_terms n q us) q)
    (slice_get (quantified_in base) n) []
origins_in base (fact.Map1 m i x) = []
origins_in base (fact.Map2 m i x j) = []

-- the origin of its first occurrence in the facts
abbrev pub first_origin : Base → List Fact → Formula → Option Origin
first_origin base facts f = find (is_origin_of base f) (flat_map (origins_in base) facts)
