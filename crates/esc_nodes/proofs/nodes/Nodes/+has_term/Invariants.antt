use Rattle.std.proofs.Common.{◌≡◌, take, map}
use Rattle.esc_nodes.specs.Terms.{term_of}
use Rattle.esc_nodes.proofs.nodes.Nodes.+has_term.Given as goal

abbrev pub invariant-have_terms-places : goal.invariant-have_terms-places
invariant-have_terms-places l = map (term_of l.self) (take l.place l.nodes) ≡ take l.place l.terms
