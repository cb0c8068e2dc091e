use Rattle.std.proofs.Common.{◌≡◌, ◌+◌, ◌*◌, map, sum, take}
use Rattle.std.specs.List.{flat_map, fold}
use Rattle.esc_term.specs.Term.{subterms, with_once}
use Rattle.esc_trail.specs.Undo.{Notes}
use Rattle.esc_egraph.specs.GraphUndo.{graph_undo}
use Rattle.esc_node_terms.proofs.TermSize.{term_size}
use Rattle.esc_node_terms.specs.Nodes.{AreNodesOf}
use Rattle.esc_sharing.specs.AddingInside.{Gathers, IsGrown, named}
use Rattle.esc_sharing.specs.Nodes.{terms_in}
use Rattle.esc_sharing.proofs.nodes.+make_term.Given as goal

abbrev pub decreases-make_term : goal.decreases-make_term
decreases-make_term g l = 2 * term_size l.term.now

abbrev pub decreases-make_terms : goal.decreases-make_terms
decreases-make_terms g l = 1 + 2 * sum (map term_size l.terms.now)

abbrev pub invariant-make_terms-terms : goal.invariant-make_terms-terms
invariant-make_terms-terms g l = record {
  grown : IsGrown l.fn.graph l.graph;
  terms : terms_in l.graph ≡ fold with_once (terms_in l.fn.graph)
      (flat_map subterms (take l.term-index l.terms));
  nodes : AreNodesOf l.graph.nodes l.nodes.items (take l.term-index l.terms);
  numbers : Gathers l.graph.nodes l.fn.numbers.items l.numbers.items
      (flat_map named (flat_map subterms (take l.term-index l.terms)));
  undo : Notes graph_undo g.R.CarriesNodes.carried_node l.fn.trail.records l.trail.records
      l.fn.graph l.graph;
}
