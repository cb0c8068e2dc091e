use Rattle.std.proofs.Common.{ℕ, ◌<◌, slice_index}
use Rattle.esc_nodes.specs.Nodes.{shape_at}
use Rattle.esc_egraph.specs.Congruence.{AreUnequalNumerals}
use Rattle.esc_egraph.proofs.parts.Parts.clashes_in.Given as goal

abbrev pub invariant-each : goal.invariant-each
invariant-each l = (k : ℕ) → k < l.member-index →
    AreUnequalNumerals (shape_at l.self.nodes l.a).top
    (shape_at l.self.nodes (slice_index l.members k)).top → ⊥
