use Rattle.std.proofs.Common.{Some, arith, ap, sym, ◌∙◌}
use Rattle.std.proofs.lemmas.Bool.{ltb-false}
use Rattle.esc_term.specs.declared.formula.Formula.{Formula}
use Rattle.esc_term.specs.declared.formula.Formula.TheViews.{out-Formula}
use Rattle.esc_book.specs.Book.{heads_of}
use Rattle.esc_book.proofs.AtomForms.{atom_kind}
use Rattle.esc_book.proofs.EntryForms.{kind_there, nodes_there}
use Rattle.esc_book.proofs.LiveForms.{if_ok}
use Rattle.esc_book.proofs.Locating.{has_entry}
use Rattle.esc_book.proofs.Reading.{get-within, length-page}
use Rattle.esc_book.proofs.atoms.formula_of.Goals as goal

pub unreachable-requires : goal.unreachable-requires
unreachable-requires c =
    let found = c.in_default.ensures.lookup in
    let at = c.requires in
    omega (
      arith,
      ltb-false _ _ (sym found.0),
      length-page c.args.graph.now at.whole c.args.page.now at.is_page,
      get-within (heads_of at.whole) c.args.index at.atom at.there,
    )

pub atom_as_formula-requires : goal.atom_as_formula-requires
atom_as_formula-requires c =
    let found = c.in-Some.ensures.lookup in
    let g = c.args.graph.now in
    let at = c.requires in
    let entry = c.in-Some.entry.now in
    record {
      nodes = nodes_there g at.whole c.args.page.now at.is_page c.args.index entry found.3.0
          found.1;
      atom = atom_kind g entry.kind (out-Formula at.atom)
          (kind_there g at.whole c.args.page.now at.is_page c.args.index entry found.3.0 found.1
          at.atom at.there) at.is_atom;
    }

pub returns : goal.returns
returns c =
    if_ok _ _ c.atom_as_formula.result c.atom_as_formula.ensures (λ s h f is.
    let found = c.in-Some.ensures.lookup in
    let entry = has_entry c.args.graph.now f c.args.page.now is c.args.index c.in-Some.entry.now
    found.3.0 found.1 in
    entry.there ∙ ap (λ (x : Formula). Some x) (sym (h entry.of entry.form)))
