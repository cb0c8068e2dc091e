use Rattle.std.proofs.Common.{subst, sym}
use Rattle.esc_standing.specs.DrawsInside.{HasNode}
use Rattle.esc_standing.proofs.draws.nodes_of.Goals as goal

pub node_of-requires : goal.node_of-requires
node_of-requires c =
    subst (HasNode c.args.graph.now) (sym c.term-item.is)
    (c.requires c.terms.term-index c.term-item.result c.terms-test.true)
