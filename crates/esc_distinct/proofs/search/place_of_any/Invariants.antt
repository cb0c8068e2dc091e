use Rattle.std.proofs.Common.{ℕ, ◌<◌, slice_index}
use Rattle.std.specs.List.{Contains}
use Rattle.esc_distinct.proofs.search.place_of_any.Given as goal

abbrev pub invariant-nodes : goal.invariant-nodes
invariant-nodes l = (k : ℕ) → k < l.node-index → Contains l.group (slice_index l.nodes k) → ⊥
