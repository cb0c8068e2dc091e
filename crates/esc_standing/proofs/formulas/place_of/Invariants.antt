use Rattle.std.proofs.Common.{◌≡◌, ℕ, ◌<◌, Some}
use Rattle.std.specs.Prelude.{slice_get}
use Rattle.esc_standing.proofs.formulas.place_of.Given as goal

abbrev pub invariant-places : goal.invariant-places
invariant-places l =
    (j : ℕ) → j < l.place → slice_get l.formulas.closed j ≡ Some l.formula → ⊥
