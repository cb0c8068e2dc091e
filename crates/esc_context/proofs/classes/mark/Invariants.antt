use Rattle.esc_context.proofs.Marking.{Marking}
use Rattle.esc_context.proofs.classes.mark.Given as goal

abbrev pub invariant-nodes : goal.invariant-nodes
invariant-nodes l = Marking l.nodes l.fn.marks.items l.marks.items l.node-index
