use Rattle.std.proofs.Common.{◌≡◌, map, take}
use Rattle.esc_nodes.specs.Terms.{term_of}
use Rattle.esc_rounds.proofs.fact.terms_of.Given as goal

abbrev pub invariant-nodes : goal.invariant-nodes
invariant-nodes l = l.terms ≡ map (term_of l.graph.nodes) (take l.node-index l.nodes)
