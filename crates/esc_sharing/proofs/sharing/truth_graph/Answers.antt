use Rattle.esc_sharing.proofs.Starting.{first_term}
use Rattle.esc_sharing.proofs.sharing.truth_graph.Goals as goal

pub returns-clause-terms : goal.returns-clause-terms
returns-clause-terms c =
    first_term c.new-graph.result c.node.new.self _ c.in_ok-node.field-0 c.new-graph.ensures.empty
    c.in_ok-node.ensures.node
