-- The closed formulas beside what is kept of quantified formulas.
use Rattle.std.specs.Prelude.{◌≡◌, IsTrue, Some, List}
use Rattle.std.specs.List.{All, AllZip, list_all}
use Rattle.esc_term.specs.declared.formula.Formula.{Formula}
use Rattle.esc_trigger.specs.Laws.{is_trigger}
use Rattle.esc_fact.specs.Legal.{IsClosedBase}
use Rattle.esc_fact.specs.declared.base.Base.{Base}
use Rattle.esc_fact.specs.declared.fact.Fact.{Fact}
use Rattle.esc_rounds.specs.Branch.{IsKept, formula_kept}
use Rattle.esc_rounds.specs.declared.kept.Kept.{Kept}

-- beside each that is kept stands its formula
abbrev pub AreBeside : Base → List Kept → List Formula → Type 0
AreBeside base kept closed = AllZip (λ k f. formula_kept base k ≡ Some f) kept closed

-- what is kept of a formula of facts over a closed base has triggers that hold its variables
abbrev pub KeptHaveTriggers : Type 0
KeptHaveTriggers = (base : Base) (facts : List Fact) (kept : List Kept) → IsClosedBase base
    → All (IsKept base facts) kept
    → All (λ k. IsTrue (list_all (is_trigger k.count) k.triggers)) kept
