use Rattle.std.proofs.Common.{◌≡◌, ◌+◌, length, take}
use Rattle.std.specs.List.{flat_map}
use Rattle.esc_rounds.specs.Origins.{outermost}
use Rattle.esc_standing.proofs.origins.+pass.Given as goal

abbrev pub invariant-pass_all-formulas : goal.invariant-pass_all-formulas
invariant-pass_all-formulas l =
    l.passed ≡ l.initial.passed + length (flat_map outermost (take l.formula-index l.formulas))
