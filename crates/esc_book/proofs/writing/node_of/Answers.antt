use Rattle.esc_node_terms.proofs.Places.{node_of_term}
use Rattle.esc_book.proofs.writing.node_of.Goals as goal

pub unreachable-requires : goal.unreachable-requires
unreachable-requires c =
    let found = node_of_term c.args.graph.now.nodes c.args.term.now c.requires in
    c.in-None.ensures.none found.0 found.1 found.2
