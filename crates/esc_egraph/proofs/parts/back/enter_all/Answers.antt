use Rattle.std.proofs.Common.{arith}
use Rattle.esc_egraph.proofs.parts.back.enter_all.Goals as goal

pub returns-clause-whole : goal.returns-clause-whole
returns-clause-whole c = λ n l. (
  n,
  c.nodes.invariant.own n
      (omega (arith, l, c.nodes-test.false, c.count-index-end.ensures.count)),
)
