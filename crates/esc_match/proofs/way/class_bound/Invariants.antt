use Rattle.std.proofs.Common.{◌≡◌, drop}
use Rattle.esc_match.specs.WaysInside.{class_bound}
use Rattle.esc_match.proofs.way.class_bound.Given as goal

abbrev pub invariant-bound : goal.invariant-bound
invariant-bound l =
    class_bound (drop l.binding-index l.bound) l.variable ≡ class_bound l.bound l.variable
