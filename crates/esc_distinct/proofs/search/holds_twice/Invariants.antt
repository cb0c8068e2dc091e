use Rattle.std.proofs.Common.{ℕ, ◌<◌, slice_index}
use Rattle.esc_egraph.specs.Graph.{number_of}
use Rattle.esc_distinct.specs.Groups.{HoldsElsewhere}
use Rattle.esc_distinct.proofs.search.holds_twice.Given as goal

abbrev pub invariant-places : goal.invariant-places
invariant-places l = (i : ℕ) → i < l.place →
    HoldsElsewhere (number_of l.graph) l.group i (slice_index l.group i) → ⊥
