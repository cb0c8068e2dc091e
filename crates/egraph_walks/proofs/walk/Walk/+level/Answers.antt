use Rattle.std.proofs.Common.{rules}
use Rattle.esc_egraph.specs.GraphUndo.{graph_undo, graph_back, CanGoBack}
use Rattle.esc_trail.proofs.Lawful.{equal_is_lawful}
use Rattle.esc_trail.proofs.Noting.{notes_both}
use Rattle.egraph_walks.proofs.walk.Walk.+level.Goals as goal

pub onward-returns-in_err-outcome : goal.onward-returns-in_err-outcome
onward-returns-in_err-outcome t c =
    notes_both graph_undo (equal_is_lawful graph_back CanGoBack) (λ rec. rec) _ _ _ _ _ _
    c.calls.invariant.undo c.turn.ensures.undo

pub onward-returns-then-ne : goal.onward-returns-then-ne
onward-returns-then-ne t c =
    notes_both graph_undo (equal_is_lawful graph_back CanGoBack) (λ rec. rec) _ _ _ _ _ _
    c.calls.invariant.undo c.turn.ensures.undo

pub onward-calls-preserved : goal.onward-calls-preserved
onward-calls-preserved t c = record {
  met = search rules;
  undo = notes_both graph_undo (equal_is_lawful graph_back CanGoBack) (λ rec. rec) _ _ _ _ _ _
      c.calls.invariant.undo c.turn.ensures.undo;
}
