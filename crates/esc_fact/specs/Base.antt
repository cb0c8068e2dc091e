-- The formulas that facts rest on, and the quantified formulas in them.
use Rattle.std.specs.Prelude.{ℕ, ◌+◌, Bool, true, false, if◌then◌else◌, List, [], ◌∷◌, ◌++◌}
use Rattle.std.specs.List.{cons_option, flat_map}
use Rattle.esc_term.specs.declared.formula.Formula.{Formula}
use Rattle.esc_term.specs.declared.formula.Formula.TheVariants as formula
use Rattle.esc_term.specs.declared.formula.Formula.TheOpen.{Formula-F, Quant-F}
use Rattle.esc_term.specs.declared.formula.Formula.TheFolds.{para-Formula}
use Rattle.esc_term.specs.declared.formula.Quant.{Quant}
use Rattle.esc_fact.specs.declared.base.Base.{Base}

-- the background, and then the negated goal where there is one
abbrev pub formulas_in : Base → List Formula
formulas_in base = base.background ++ cons_option base.negated []

-- a quantified formula as it stands in a formula
pub record Quantified : Type 0 where
  -- it begins with a universal quantifier
  pub universal : Bool
  pub quant : Quant
  -- how many variables are bound around it
  pub outer : ℕ

abbrev pub whole : Quantified → Formula
whole q = if q.universal then formula.Forall q.quant else formula.Exists q.quant

abbrev pub Listing : Type 0
Listing = ℕ → List Quantified

abbrev pub quantified_step : Formula-F (Formula × Listing) (Quant × Listing) → Listing
quantified_step Formula-F.True outer = []
quantified_step Formula-F.False outer = []
quantified_step (Formula-F.And parts) outer = flat_map (λ part. part.1 outer) parts
quantified_step (Formula-F.Or parts) outer = flat_map (λ part. part.1 outer) parts
quantified_step (Formula-F.Not part) outer = part.1 outer
quantified_step (Formula-F.Implies left right) outer = left.1 outer ++ right.1 outer
quantified_step (Formula-F.Iff left right) outer = left.1 outer ++ right.1 outer
quantified_step (Formula-F.Forall quant) outer =
    record { universal = true; quant = quant.0; outer = outer } ∷ quant.1 outer
quantified_step (Formula-F.Exists quant) outer =
    record { universal = false; quant = quant.0; outer = outer } ∷ quant.1 outer
quantified_step (Formula-F.Eq left right) outer = []
quantified_step (Formula-F.Less left right) outer = []
quantified_step (Formula-F.Distinct terms) outer = []
quantified_step (Formula-F.LabelPos name part) outer = part.1 outer
quantified_step (Formula-F.LabelNeg name part) outer = part.1 outer

abbrev pub quantified_quant_step : Quant-F (Formula × Listing) (Quant × Listing) → Listing
quantified_quant_step quant outer = quant.body.1 (outer + quant.count)

-- the quantified formulas in a formula under so many bound variables, from the front, an outer one
-- before those inside it
unfoldable pub quantified_under : Formula → ℕ → List Quantified
quantified_under = para-Formula Listing Listing quantified_step quantified_quant_step

-- the quantified formulas of a base, each at its number
abbrev pub quantified_in : Base → List Quantified
quantified_in base = flat_map (λ f. quantified_under f 0) (formulas_in base)
