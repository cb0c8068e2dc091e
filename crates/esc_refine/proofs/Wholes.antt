-- A formula is the first of its occurrences.
use Rattle.std.proofs.Common.{◌≡◌, ℕ, List, Some, ap, subst, ◌∙◌}
use Rattle.std.specs.List.{slice_get}
use Rattle.std.specs.Option.{option_and_then}
use denote.Hole.Carrier.{roll}
use Rattle.esc_term.specs.declared.formula.Formula.{Formula, out-Formula}
use Rattle.esc_term.specs.declared.formula.Formula.TheOpen.{Formula-F}
use Rattle.esc_term.specs.declared.formula.Formula.TheViews.{roll-Formula, roll-out-Formula}
use Rattle.esc_term.specs.declared.formula.Quant.{Quant}
use Rattle.esc_clause.specs.Occurrences.{formula_at, occurrences_of}
use Rattle.esc_clause.proofs.OccurrencesLevels as levels
use Rattle.esc_live.specs.Promises.{whole_at}

first_form : (y : Formula-F Formula Quant)
    → slice_get (occurrences_of (roll-Formula y)) 0 ≡ Some (roll-Formula y)
unfolding roll-Formula roll
first_form Formula-F.True = ap (λ os. slice_get os 0) levels.occurrences_of-True
first_form Formula-F.False = ap (λ os. slice_get os 0) levels.occurrences_of-False
first_form (Formula-F.And gs) = ap (λ os. slice_get os 0) (levels.occurrences_of-And gs)
first_form (Formula-F.Or gs) = ap (λ os. slice_get os 0) (levels.occurrences_of-Or gs)
first_form (Formula-F.Not g) = ap (λ os. slice_get os 0) (levels.occurrences_of-Not g)
first_form (Formula-F.Implies g h) =
    ap (λ os. slice_get os 0) (levels.occurrences_of-Implies g h)
first_form (Formula-F.Iff g h) = ap (λ os. slice_get os 0) (levels.occurrences_of-Iff g h)
first_form (Formula-F.Forall q) = ap (λ os. slice_get os 0) (levels.occurrences_of-Forall q)
first_form (Formula-F.Exists q) = ap (λ os. slice_get os 0) (levels.occurrences_of-Exists q)
first_form (Formula-F.Eq s t) = ap (λ os. slice_get os 0) (levels.occurrences_of-Eq s t)
first_form (Formula-F.Less s t) = ap (λ os. slice_get os 0) (levels.occurrences_of-Less s t)
first_form (Formula-F.Distinct ts) =
    ap (λ os. slice_get os 0) (levels.occurrences_of-Distinct ts)
first_form (Formula-F.LabelPos name g) =
    ap (λ os. slice_get os 0) (levels.occurrences_of-LabelPos name g)
first_form (Formula-F.LabelNeg name g) =
    ap (λ os. slice_get os 0) (levels.occurrences_of-LabelNeg name g)

first_is : (f : Formula) → slice_get (occurrences_of f) 0 ≡ Some f
first_is f =
    subst (λ g. slice_get (occurrences_of g) 0 ≡ Some g) (roll-out-Formula f)
    (first_form (out-Formula f))

pub formula_at-whole : (fs : List Formula) (place : ℕ) (f : Formula)
    → slice_get fs place ≡ Some f → formula_at fs (whole_at place) ≡ Some f
formula_at-whole fs place f e =
    ap (λ o. option_and_then (λ g. slice_get (occurrences_of g) 0) o) e ∙ first_is f
