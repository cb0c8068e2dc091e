use Rattle.esc_nodes.specs.Nodes.{shape}
use Rattle.esc_node_terms.proofs.MadeTerms.{terms_grown}
use Rattle.esc_sharing.proofs.Growing.{grown_node, node_grown}
use Rattle.esc_sharing.proofs.nodes.make_node.Goals as goal

pub returns-clause-grown : goal.returns-clause-grown
returns-clause-grown g c =
    grown_node c.args.graph.now c.node.new.self (shape c.args.top c.args.args.now)
    c.in_ok-node.node c.count-2.ensures.graph c.in_ok-node.ensures.met c.in_ok-node.ensures.node

pub returns-clause-terms : goal.returns-clause-terms
returns-clause-terms g c =
    terms_grown c.args.graph.now c.node.new.self (shape c.args.top c.args.args.now)
    c.in_ok-node.node c.count-2.ensures.graph c.in_ok-node.ensures.node

pub returns-clause-node : goal.returns-clause-node
returns-clause-node g c =
    node_grown c.args.graph.now c.node.new.self (shape c.args.top c.args.args.now)
    c.in_ok-node.node c.count-2.ensures.graph c.in_ok-node.ensures.there.0
    c.in_ok-node.ensures.node
