use Rattle.std.proofs.Common.{inl, inr}
use Rattle.std.specs.List.{Contains}
use Rattle.esc_sharing.specs.Nodes.{terms_in}
use Rattle.esc_book.proofs.Inside.{terms-distinct, terms-sides}
use Rattle.esc_book.proofs.writing.kind_of.Goals as goal

pub node_of-requires : goal.node_of-requires
node_of-requires c =
    (terms-sides (Contains (terms_in c.args.graph.now)) c.args.formula.now c.in-Eq.left
    c.in-Eq.right (inl c.in-Eq.is) c.requires.terms).0

pub node_of-requires-in-Eq : goal.node_of-requires-in-Eq
node_of-requires-in-Eq c =
    (terms-sides (Contains (terms_in c.args.graph.now)) c.args.formula.now c.in-Eq.left
    c.in-Eq.right (inl c.in-Eq.is) c.requires.terms).1

pub node_of-requires-in-Less : goal.node_of-requires-in-Less
node_of-requires-in-Less c =
    (terms-sides (Contains (terms_in c.args.graph.now)) c.args.formula.now c.in-Less.left
    c.in-Less.right (inr c.in-Less.is) c.requires.terms).0

pub node_of-requires-in-Less-2 : goal.node_of-requires-in-Less-2
node_of-requires-in-Less-2 c =
    (terms-sides (Contains (terms_in c.args.graph.now)) c.args.formula.now c.in-Less.left
    c.in-Less.right (inr c.in-Less.is) c.requires.terms).1

pub nodes_of-requires : goal.nodes_of-requires
nodes_of-requires c =
    terms-distinct (Contains (terms_in c.args.graph.now)) c.args.formula.now c.in-Distinct.terms
    c.as_slice.result.now c.in-Distinct.is c.as_slice.ensures c.requires.terms
