use Rattle.std.proofs.Common.{◌+◌, ◌*◌}
use Rattle.esc_trail.specs.Undo.{Notes}
use Rattle.esc_egraph.specs.GraphUndo.{graph_undo}
use Rattle.esc_egraph.specs.Congruence.{IsMet}
use Rattle.egraph_walks.proofs.walk.Walk.+level.Given as goal

abbrev pub decreases-level : goal.decreases-level
decreases-level l = 3 * l.depth + 2

abbrev pub decreases-onward : goal.decreases-onward
decreases-onward l = 3 * l.depth + 1

abbrev pub decreases-turn : goal.decreases-turn
decreases-turn l = 3 * l.depth

abbrev pub invariant-onward-calls : goal.invariant-onward-calls
invariant-onward-calls l = record {
  met : IsMet l.self.graph;
  undo : Notes graph_undo (λ rec. rec) l.fn.self.trail.records l.self.trail.records l.fn.self.graph
      l.self.graph;
}
