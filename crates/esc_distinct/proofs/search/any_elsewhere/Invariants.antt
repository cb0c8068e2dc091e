use Rattle.std.proofs.Common.{ℕ, ◌<◌, slice_index}
use Rattle.esc_distinct.specs.PassesInside.{StandsElsewhere}
use Rattle.esc_distinct.proofs.search.any_elsewhere.Given as goal

abbrev pub invariant-nodes : goal.invariant-nodes
invariant-nodes l = (k : ℕ) → k < l.node-index →
    StandsElsewhere l.group l.place (slice_index l.nodes k) → ⊥
