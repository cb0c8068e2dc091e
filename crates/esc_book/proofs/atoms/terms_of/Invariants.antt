use Rattle.std.proofs.Common.{◌≡◌, map, take}
use Rattle.esc_sharing.specs.Nodes.{node_term}
use Rattle.esc_book.proofs.atoms.terms_of.Given as goal

abbrev pub invariant-nodes : goal.invariant-nodes
invariant-nodes l = record {
  are : l.terms ≡ map (node_term l.fn.graph) (take l.node-index l.nodes);
}
