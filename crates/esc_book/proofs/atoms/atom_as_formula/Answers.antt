use Rattle.std.proofs.Common.{◌<◌, map, ap, ap₂, sym, subst, ◌∙◌}
use Rattle.std.specs.List.{All}
use Rattle.esc_term.specs.declared.formula.Formula.TheVariants as formula
use Rattle.esc_sharing.specs.Nodes.{node_count, node_term}
use Rattle.esc_book.specs.Book.{Distinction, Equation, HasNodes, Order, Quantified, told_kind}
use Rattle.esc_book.proofs.AtomForms.{some_atom}
use Rattle.esc_book.proofs.EntryForms.{of_form}
use Rattle.esc_book.proofs.LiveForms.{if_ok}
use Rattle.esc_book.proofs.atoms.atom_as_formula.Goals as goal

pub equation_of-requires : goal.equation_of-requires
equation_of-requires c =
    let both = subst (HasNodes c.args.graph.now) c.in-Equation.is c.requires.nodes in
    record { left = both.0; right = both.1 }

pub term-requires : goal.term-requires
term-requires c = (subst (HasNodes c.args.graph.now) c.in-Order.is c.requires.nodes).0

pub term-requires-in-Order : goal.term-requires-in-Order
term-requires-in-Order c = (subst (HasNodes c.args.graph.now) c.in-Order.is c.requires.nodes).1

pub terms_of-requires : goal.terms_of-requires
terms_of-requires c =
    subst (All (λ a. a < node_count c.args.graph.now)) (sym (c.nodes.ensures ∙ c.get.ensures))
    (subst (HasNodes c.args.graph.now) c.in-Distinction.is c.requires.nodes)

pub unreachable-requires : goal.unreachable-requires
unreachable-requires c =
    some_atom c.args.kind.now c.in_default.not-Equation c.in_default.not-Order
    c.in_default.not-Distinction c.in_default.not-Quantified c.requires.atom

pub returns-in-Equation : goal.returns-in-Equation
returns-in-Equation c =
    if_ok _ _ c.equation_of.result c.equation_of.ensures (λ s h t told.
    h ∙ sym (of_form (Equation (node_term c.args.graph.now c.in-Equation.a)
    (node_term c.args.graph.now c.in-Equation.b)) t
    (ap (told_kind c.args.graph.now) (sym c.in-Equation.is) ∙ told)))

pub returns-in_ok-term-in-Order : goal.returns-in_ok-term-in-Order
returns-in_ok-term-in-Order c t told =
    ap₂ formula.Less c.in_ok-left-in-Order.ensures c.in_ok-term-in-Order.ensures
    ∙ sym (of_form (Order (node_term c.args.graph.now c.in-Order.a)
    (node_term c.args.graph.now c.in-Order.b)) t
    (ap (told_kind c.args.graph.now) (sym c.in-Order.is) ∙ told))

pub returns-in_ok-terms_of-in-Distinction : goal.returns-in_ok-terms_of-in-Distinction
returns-in_ok-terms_of-in-Distinction c t told =
    let of = node_term c.args.graph.now in
    ap formula.Distinct (c.in_ok-terms_of-in-Distinction.ensures ∙ ap (map of) (c.nodes.ensures ∙ c.get.ensures))
    ∙ sym (of_form (Distinction (map of c.in-Distinction.group)) t
    (ap (told_kind c.args.graph.now) (sym c.in-Distinction.is) ∙ told))

pub returns-in-Quantified : goal.returns-in-Quantified
returns-in-Quantified c =
    if_ok _ _ c.copy.result c.copy.ensures (λ s h t told.
    h ∙ (c.get-in-Quantified.ensures ∙ (of_form (Quantified c.in-Quantified.formula) t
    (ap (told_kind c.args.graph.now) (sym c.in-Quantified.is) ∙ told)).0))
