use Rattle.esc_node_terms.proofs.Agreeing.{agreeing}
use Rattle.esc_node_terms.proofs.ClassTests.{nodes_of_together, together_of_nodes}
use Rattle.esc_node_terms.proofs.laws.node_laws.Goals as goal

pub returns-clause-classes : goal.returns-clause-classes
returns-clause-classes c = λ g graph s t.
    (nodes_of_together g graph s t, together_of_nodes g graph s t)

pub returns-clause-agree : goal.returns-clause-agree
returns-clause-agree c = agreeing
