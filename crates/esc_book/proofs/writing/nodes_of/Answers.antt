use Rattle.std.proofs.Common.{sym, subst}
use Rattle.std.specs.List.{Contains}
use Rattle.esc_sharing.specs.Nodes.{terms_in}
use Rattle.esc_book.proofs.writing.nodes_of.Goals as goal

pub node_of-requires : goal.node_of-requires
node_of-requires c =
    subst (Contains (terms_in c.args.graph.now)) (sym c.term-item.is)
    (c.requires c.terms.term-index c.term-item.result c.terms-test.true)
