-- The subformulas of a formula by their numbers.
use Rattle.std.specs.Prelude.{ℕ, Bool, not, List, [], ◌∷◌, ◌++◌, length, map, Option, slice_get}
use Rattle.std.specs.List.{flat_map}
use Rattle.std.specs.Option.{option_and_then, option_map}
use Rattle.esc_term.specs.declared.formula.Formula.{Formula}
use Rattle.esc_term.specs.declared.formula.Formula.TheVariants as formula
use Rattle.esc_term.specs.declared.formula.Formula.TheOpen.{Formula-F}
use Rattle.esc_term.specs.declared.formula.Formula.TheFolds.{para-Formula}
use Rattle.esc_term.specs.declared.formula.Quant.{Quant}
use Rattle.esc_term.specs.declared.formula.Item.{Item}
use Rattle.esc_cover.specs.Atoms.{pair_equations}
use Rattle.esc_clause.specs.declared.occurrence.Occurrence.{Occurrence}

abbrev pub occurrences_step : Formula-F (Formula × List Formula) (Quant × Unit) → List Formula
occurrences_step Formula-F.True = formula.True ∷ []
occurrences_step Formula-F.False = formula.False ∷ []
occurrences_step (Formula-F.And parts) =
    formula.And (map (λ part. part.0) parts) ∷ flat_map (λ part. part.1) parts
occurrences_step (Formula-F.Or parts) =
    formula.Or (map (λ part. part.0) parts) ∷ flat_map (λ part. part.1) parts
occurrences_step (Formula-F.Not part) = formula.Not part.0 ∷ part.1
occurrences_step (Formula-F.Implies left right) =
    formula.Implies left.0 right.0 ∷ (left.1 ++ right.1)
occurrences_step (Formula-F.Iff left right) = formula.Iff left.0 right.0 ∷ (left.1 ++ right.1)
occurrences_step (Formula-F.Forall quant) = formula.Forall quant.0 ∷ []
occurrences_step (Formula-F.Exists quant) = formula.Exists quant.0 ∷ []
occurrences_step (Formula-F.Eq s t) = formula.Eq s t ∷ []
occurrences_step (Formula-F.Less s t) = formula.Less s t ∷ []
occurrences_step (Formula-F.Distinct ts) = formula.Distinct ts ∷ pair_equations ts
occurrences_step (Formula-F.LabelPos name part) = formula.LabelPos name part.0 ∷ part.1
occurrences_step (Formula-F.LabelNeg name part) = formula.LabelNeg name part.0 ∷ part.1

-- the subformulas of a formula, each at its number: from the front, a formula before its parts, and
-- a distinction before
-- the equations of its pairs; what stands inside a quantified formula is not counted
unfoldable pub occurrences_of : Formula → List Formula
occurrences_of = para-Formula (List Formula) Unit occurrences_step (λ quant. tt)

-- how many occurrences a formula has
abbrev pub size_of : Formula → ℕ
size_of f = length (occurrences_of f)

-- the formula that stands at a place of one of the formulas
abbrev pub formula_at : List Formula → Occurrence → Option Formula
formula_at fs at =
    option_and_then (λ f. slice_get (occurrences_of f) at.place) (slice_get fs at.fact)

abbrev pub signed : Bool → Formula → Item
signed positive f = record { formula = f; positive = positive }

-- the formula there with the sign of the occurrence
abbrev pub item_at : List Formula → Occurrence → Option Item
item_at fs at = option_map (signed at.positive) (formula_at fs at)

-- the same occurrence with the other sign
abbrev pub contrary : Occurrence → Occurrence
contrary at = record at { positive = not at.positive }
