use Rattle.std.proofs.Common.{ℕ, ◌<◌, [], slice_index_or}
use Rattle.esc_egraph.specs.Graph.{number_of}
use Rattle.esc_distinct.specs.Groups.{HoldsApart}
use Rattle.esc_distinct.proofs.groups.Groups.apart.Given as goal

abbrev pub invariant-groups : goal.invariant-groups
invariant-groups l = (k : ℕ) → k < l.place →
    HoldsApart (number_of l.graph) l.a l.b (slice_index_or l.fn.self k []) → ⊥
