use Rattle.std.proofs.Common.{Some, arith, sym, ap, subst, ◌∙◌}
use Rattle.std.proofs.lemmas.Bool.{ltb-false}
use Rattle.esc_term.specs.declared.formula.Formula.TheVariants as formula
use Rattle.esc_book.specs.Atom.{IsGroupOf}
use Rattle.esc_book.specs.Book.{HasNodes, heads_of}
use Rattle.esc_book.specs.declared.entry.Kind.TheVariants as kind
use Rattle.esc_book.proofs.AtomForms.{is_distinction}
use Rattle.esc_book.proofs.EntryForms.{form_there, kind_there, nodes_there}
use Rattle.esc_book.proofs.Reading.{get-within, length-page}
use Rattle.esc_book.proofs.atoms.group_of.Goals as goal

pub returns-in_default-clause-none : goal.returns-in_default-clause-none
returns-in_default-clause-none c none g f ts is there =
    let found = c.in_default.ensures.lookup in
    absurd (omega (
      arith,
      ltb-false _ _ (sym found.0),
      length-page g f c.args.page.now is,
      get-within (heads_of f) c.args.index (formula.Distinct ts) there,
    ))

pub returns-in-Distinction-clause-some : goal.returns-in-Distinction-clause-some
returns-in-Distinction-clause-some c g f s is there =
    let found = c.in-Some.ensures.lookup in
    let entry = c.in-Some.entry.now in
    let nodes = c.in-Distinction.group in
    subst (IsGroupOf g (Some s)) (sym (c.nodes.ensures ∙ c.get-in-Distinction.ensures)) (record {
      is = ap (λ x. Some x) (form_there g f c.args.page.now is c.args.index entry found.3.0 found.1
          s (kind.Distinction nodes) there c.in-Distinction.is);
      nodes = subst (HasNodes g) c.in-Distinction.is
          (nodes_there g f c.args.page.now is c.args.index entry found.3.0 found.1);
    })

pub returns-in_default-kind-clause-none : goal.returns-in_default-kind-clause-none
returns-in_default-kind-clause-none c none g f ts is there =
    let found = c.in-Some.ensures.lookup in
    let entry = c.in-Some.entry.now in
    is_distinction g entry.kind ts c.in_default-kind.not-Distinction
    (kind_there g f c.args.page.now is c.args.index entry found.3.0 found.1
    (formula.Distinct ts) there)
