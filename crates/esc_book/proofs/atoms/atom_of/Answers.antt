use Rattle.std.proofs.Common.{Some, map, arith, sym, ap, subst}
use Rattle.std.proofs.lemmas.Bool.{ltb-false}
use Rattle.esc_term.specs.declared.formula.Formula.TheViews.{out-Formula}
use Rattle.esc_sharing.specs.Nodes.{node_term}
use Rattle.esc_book.specs.Book.{HasNodes, heads_of}
use Rattle.esc_book.specs.declared.entry.Kind.TheVariants as kind
use Rattle.esc_book.proofs.AtomForms.{quantified_atom}
use Rattle.esc_book.proofs.EntryForms.{form_there, kind_there, nodes_there}
use Rattle.esc_book.proofs.Reading.{get-within, length-page}
use Rattle.esc_book.proofs.atoms.atom_of.Goals as goal

pub returns-in_default : goal.returns-in_default
returns-in_default c g f s is there atom =
    let found = c.in_default.ensures.lookup in
    absurd (omega (
      arith,
      ltb-false _ _ (sym found.0),
      length-page g f c.args.page.now is,
      get-within (heads_of f) c.args.index s there,
    ))

pub returns-in-Equation : goal.returns-in-Equation
returns-in-Equation c g f s is there atom =
    let found = c.in-Some.ensures.lookup in
    let entry = c.in-Some.entry.now in (
      ap (λ x. Some x) (form_there g f c.args.page.now is c.args.index entry found.3.0 found.1 s
          (kind.Equation c.in-Equation.a c.in-Equation.b) there c.in-Equation.is),
      subst (HasNodes g) c.in-Equation.is
          (nodes_there g f c.args.page.now is c.args.index entry found.3.0 found.1),
    )

pub returns-in-Order : goal.returns-in-Order
returns-in-Order c g f s is there atom =
    let found = c.in-Some.ensures.lookup in
    let entry = c.in-Some.entry.now in (
      ap (λ x. Some x) (form_there g f c.args.page.now is c.args.index entry found.3.0 found.1 s
          (kind.Order c.in-Order.a c.in-Order.b) there c.in-Order.is),
      subst (HasNodes g) c.in-Order.is
          (nodes_there g f c.args.page.now is c.args.index entry found.3.0 found.1),
    )

pub returns-in-Distinction : goal.returns-in-Distinction
returns-in-Distinction c g f s is there atom =
    let found = c.in-Some.ensures.lookup in
    let nodes = c.in-Distinction.field-0 in (
      map (node_term g) nodes,
      ap (λ x. Some x) (form_there g f c.args.page.now is c.args.index c.in-Some.entry.now found.3.0
          found.1 s (kind.Distinction nodes) there c.in-Distinction.is),
    )

pub returns-in_default-kind : goal.returns-in_default-kind
returns-in_default-kind c g f s is there atom =
    let found = c.in-Some.ensures.lookup in
    let entry = c.in-Some.entry.now in
    quantified_atom g entry.kind (out-Formula s) c.in_default-kind.not-Equation
    c.in_default-kind.not-Order c.in_default-kind.not-Distinction
    (kind_there g f c.args.page.now is c.args.index entry found.3.0 found.1 s there) atom
