use Rattle.std.proofs.Common.{◌≡◌, take, map}
use Rattle.esc_nodes.specs.Terms.{term_of}
use Rattle.esc_nodes.proofs.nodes.Nodes.+term.Given as goal

abbrev pub decreases-term : goal.decreases-term
decreases-term l = l.node

abbrev pub invariant-places : goal.invariant-places
invariant-places l = l.terms ≡ map (term_of l.self) (take l.arg-index l.args)
