use Rattle.std.proofs.Common.{length, ap, arith}
use Rattle.esc_distinct.proofs.search.class_elsewhere.Goals as goal

pub returns : goal.returns
returns c = (
  λ e. cc,
  λ holds. absurd
      (c.others.invariant holds.0
      (omega (arith, holds.1, c.others-test.false, ap length c.nodes-nodes.ensures)) holds.2
      holds.3),
)
