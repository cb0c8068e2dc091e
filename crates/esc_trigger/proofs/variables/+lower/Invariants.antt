use Rattle.std.proofs.Common.{◌≡◌, ℕ, ◌^◌, min, map, take}
use Rattle.esc_trigger.specs.Variables.{lowered}
use Rattle.esc_trigger.proofs.variables.+lower.Given as goal

abbrev pub invariant-lower_all-loop-term : goal.invariant-lower_all-loop-term
invariant-lower_all-loop-term l =
    (d : ℕ) → min d (2 ^ 64) ≡ l.depth → l.done ≡ map (lowered d) (take l.term-index l.terms)
