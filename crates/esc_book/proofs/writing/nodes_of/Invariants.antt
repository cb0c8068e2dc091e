use Rattle.std.proofs.Common.{◌≡◌, ◌<◌, map, take}
use Rattle.std.specs.List.{All}
use Rattle.esc_sharing.specs.Nodes.{node_count, node_term}
use Rattle.esc_book.proofs.writing.nodes_of.Given as goal

abbrev pub invariant-terms : goal.invariant-terms
invariant-terms l = record {
  there : All (λ a. a < node_count l.fn.graph) l.nodes;
  are : map (node_term l.fn.graph) l.nodes ≡ take l.term-index l.terms;
}
