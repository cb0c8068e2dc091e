use Rattle.std.proofs.Common.{refl, sym, subst}
use Rattle.esc_book.specs.Atom.{IsAtomOf}
use Rattle.esc_book.specs.declared.atom.Atom.TheVariants as atom
use Rattle.esc_clause.specs.Occurrences.{formula_at}
use Rattle.esc_sharing.specs.Literals.{AreSides, item_of}
use Rattle.esc_simplex.specs.View.{numbers_in, senses_in}
use Rattle.esc_play.proofs.MoreBehind.{more_none}
use Rattle.esc_live.specs.StandingInside.{ShareEnds}
use Rattle.esc_live.specs.View.{logged}
use Rattle.esc_live.proofs.LiveNotes.{live_nothing, shared_notes}
use Rattle.esc_live.proofs.Rewound.{limit_noted}
use Rattle.esc_live.proofs.SharedLiteral.{comes_equal, comes_group, comes_less, comes_quantified}
use Rattle.esc_live.proofs.SharedLiteral.{equation_ends, equation_sides, group_ends, is_distinct}
use Rattle.esc_live.proofs.SharedLiteral.{order_at, stays_given}
use Rattle.esc_live.proofs.WrittenItems.{atom_of_literal}
use Rattle.esc_live.proofs.branch.LiveBranch.share.Goals as goal

pub atom-requires-clause-book : goal.atom-requires-clause-book
atom-requires-clause-book c = (c.args.self.now.sharing.graph, c.requires.book)

pub atom-requires-clause-atom : goal.atom-requires-clause-atom
atom-requires-clause-atom c = atom_of_literal (logged c.args.self.now) c.args.at c.requires.literal

-- ---- an equation

pub assert_literal-requires-clause-sides : goal.assert_literal-requires-clause-sides
assert_literal-requires-clause-sides c =
    let is = subst (IsAtomOf c.args.self.now.sharing.graph
    (formula_at (logged c.args.self.now) c.args.at)) c.in-Equal.is
    (c.atom.ensures c.args.self.now.sharing.graph c.requires.book) in
    subst (AreSides c.args.self.now.sharing.graph (numbers_in c.args.self.now.sharing.theory))
    (sym c.equation.ensures)
    (equation_sides c.args.self.now.sharing c.in-Equal.a c.in-Equal.b c.args.at.positive is.1.0
    is.1.1)

pub returns-in-Equal-clause-comes : goal.returns-in-Equal-clause-comes
returns-in-Equal-clause-comes c =
    let is = subst (IsAtomOf c.args.self.now.sharing.graph
    (formula_at (logged c.args.self.now) c.args.at)) c.in-Equal.is
    (c.atom.ensures c.args.self.now.sharing.graph c.requires.book) in
    comes_equal c.args.self.now c.args.at c.assert_literal.new.self c.assert_literal.result
    c.in-Equal.a c.in-Equal.b is
    (equation_ends c.args.self.now.sharing c.assert_literal.new.self
    c.assert_literal.ensures.numbers c.assert_literal.ensures.sound c.assert_literal.ensures.made
    c.equation.result _ c.equation.ensures c.assert_literal.result c.assert_literal.ensures.ends
    c.assert_literal.ensures.stop)

pub returns-in-Equal-clause-given : goal.returns-in-Equal-clause-given
returns-in-Equal-clause-given c =
    stays_given c.args.self.now.sharing c.assert_literal.new.self c.assert_literal.ensures.numbers
    c.assert_literal.ensures.made

pub returns-in-Equal-clause-means : goal.returns-in-Equal-clause-means
returns-in-Equal-clause-means c =
    (c.assert_literal.ensures.made.more, c.assert_literal.ensures.made.made)

pub returns-in-Equal-clause-limit : goal.returns-in-Equal-clause-limit
returns-in-Equal-clause-limit c =
    limit_noted _ _ c.args.self.now _
    (shared_notes c.args.self.now _ _ c.assert_literal.new.self c.assert_literal.ensures.undo)

pub returns-in-Equal-clause-undo : goal.returns-in-Equal-clause-undo
returns-in-Equal-clause-undo c =
    shared_notes c.args.self.now _ _ c.assert_literal.new.self c.assert_literal.ensures.undo

-- ---- an order

pub assert_literal-requires-in-Less-clause-sides : goal.assert_literal-requires-in-Less-clause-sides
assert_literal-requires-in-Less-clause-sides c =
    let is = subst (IsAtomOf c.args.self.now.sharing.graph
    (formula_at (logged c.args.self.now) c.args.at)) c.in-Less.is
    (c.atom.ensures c.args.self.now.sharing.graph c.requires.book) in
    subst (AreSides c.args.self.now.sharing.graph (numbers_in c.args.self.now.sharing.theory))
    (sym c.order.ensures)
    (order_at c.args.self.now c.args.at c.requires.shared c.requires.sides c.in-Less.a c.in-Less.b
    is)

pub returns-in-Less-clause-comes : goal.returns-in-Less-clause-comes
returns-in-Less-clause-comes c =
    let is = subst (IsAtomOf c.args.self.now.sharing.graph
    (formula_at (logged c.args.self.now) c.args.at)) c.in-Less.is
    (c.atom.ensures c.args.self.now.sharing.graph c.requires.book) in
    comes_less c.args.self.now c.args.at c.assert_literal-in-Less.new.self
    c.assert_literal-in-Less.result c.in-Less.a c.in-Less.b is
    (equation_ends c.args.self.now.sharing c.assert_literal-in-Less.new.self
    c.assert_literal-in-Less.ensures.numbers c.assert_literal-in-Less.ensures.sound
    c.assert_literal-in-Less.ensures.made
    c.order.result _ c.order.ensures c.assert_literal-in-Less.result
    c.assert_literal-in-Less.ensures.ends c.assert_literal-in-Less.ensures.stop)

pub returns-in-Less-clause-given : goal.returns-in-Less-clause-given
returns-in-Less-clause-given c =
    stays_given c.args.self.now.sharing c.assert_literal-in-Less.new.self
    c.assert_literal-in-Less.ensures.numbers c.assert_literal-in-Less.ensures.made

pub returns-in-Less-clause-means : goal.returns-in-Less-clause-means
returns-in-Less-clause-means c =
    (c.assert_literal-in-Less.ensures.made.more, c.assert_literal-in-Less.ensures.made.made)

pub returns-in-Less-clause-limit : goal.returns-in-Less-clause-limit
returns-in-Less-clause-limit c =
    limit_noted _ _ c.args.self.now _
    (shared_notes c.args.self.now _ _ c.assert_literal-in-Less.new.self
    c.assert_literal-in-Less.ensures.undo)

pub returns-in-Less-clause-undo : goal.returns-in-Less-clause-undo
returns-in-Less-clause-undo c =
    shared_notes c.args.self.now _ _ c.assert_literal-in-Less.new.self
    c.assert_literal-in-Less.ensures.undo

-- ---- a distinction

pub group-requires-clause-book : goal.group-requires-clause-book
group-requires-clause-book c = (c.args.self.now.sharing.graph, c.requires.book)

pub group-requires-clause-distinct : goal.group-requires-clause-distinct
group-requires-clause-distinct c =
    is_distinct c.args.self.now c.args.at c.atom.result c.in-Distinct.is
    (c.atom.ensures c.args.self.now.sharing.graph c.requires.book)

pub assert_group-requires-clause-nodes : goal.assert_group-requires-clause-nodes
assert_group-requires-clause-nodes c =
    (c.group.ensures c.args.self.now.sharing.graph c.requires.book).nodes

pub returns-in-Distinct-clause-comes : goal.returns-in-Distinct-clause-comes
returns-in-Distinct-clause-comes c =
    comes_group c.args.self.now c.args.at c.assert_group.new.self c.assert_group.result
    c.group.result.now (c.group.ensures c.args.self.now.sharing.graph c.requires.book)
    c.requires.literal
    (group_ends c.args.self.now.sharing c.assert_group.new.self c.assert_group.ensures.numbers
    c.assert_group.ensures.sound
    (stays_given c.args.self.now.sharing c.assert_group.new.self c.assert_group.ensures.numbers
    c.assert_group.ensures.made) c.group.result.now c.assert_group.result
    c.assert_group.ensures.ends c.assert_group.ensures.stop)

pub returns-in-Distinct-clause-given : goal.returns-in-Distinct-clause-given
returns-in-Distinct-clause-given c =
    stays_given c.args.self.now.sharing c.assert_group.new.self c.assert_group.ensures.numbers
    c.assert_group.ensures.made

pub returns-in-Distinct-clause-means : goal.returns-in-Distinct-clause-means
returns-in-Distinct-clause-means c =
    (c.assert_group.ensures.made.more, c.assert_group.ensures.made.made)

pub returns-in-Distinct-clause-limit : goal.returns-in-Distinct-clause-limit
returns-in-Distinct-clause-limit c =
    limit_noted _ _ c.args.self.now _
    (shared_notes c.args.self.now _ _ c.assert_group.new.self c.assert_group.ensures.undo)

pub returns-in-Distinct-clause-undo : goal.returns-in-Distinct-clause-undo
returns-in-Distinct-clause-undo c =
    shared_notes c.args.self.now _ _ c.assert_group.new.self c.assert_group.ensures.undo

-- ---- a quantified formula

pub returns-in-Quantified-clause-comes : goal.returns-in-Quantified-clause-comes
returns-in-Quantified-clause-comes c =
    comes_quantified c.args.self.now c.args.at c.requires.shared
    (subst (IsAtomOf c.args.self.now.sharing.graph
    (formula_at (logged c.args.self.now) c.args.at)) c.in-Quantified.is
    (c.atom.ensures c.args.self.now.sharing.graph c.requires.book))

pub returns-in-Quantified-clause-given : goal.returns-in-Quantified-clause-given
returns-in-Quantified-clause-given c = λ fs by. by

pub returns-in-Quantified-clause-means : goal.returns-in-Quantified-clause-means
returns-in-Quantified-clause-means c =
    more_none (senses_in c.args.self.now.sharing.theory) (senses_in c.args.self.now.sharing.theory)
    refl

pub returns-in-Quantified-clause-undo : goal.returns-in-Quantified-clause-undo
returns-in-Quantified-clause-undo c =
    live_nothing c.args.trail.now.records c.args.self.now
