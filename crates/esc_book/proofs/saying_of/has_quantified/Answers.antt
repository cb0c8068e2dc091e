use Rattle.std.proofs.Common.{arith, sym}
use Rattle.std.proofs.lemmas.Bool.{ltb-false}
use Rattle.esc_book.specs.Book.{heads_of}
use Rattle.esc_book.proofs.EntryForms.{kind_there}
use Rattle.esc_book.proofs.Quantified.{kind_same, same_kind}
use Rattle.esc_book.proofs.Reading.{get-within, length-page}
use Rattle.esc_book.proofs.saying_of.has_quantified.Goals as goal

pub returns-in-Some : goal.returns-in-Some
returns-in-Some c quantified g f s is there =
    let found = c.in-Some.ensures.lookup in
    let entry = c.in-Some.entry.now in
    let told = kind_there g f c.args.page.now is c.args.index entry found.3.0 found.1 s there in (
      λ yes_it. kind_same g entry.kind c.args.formula.now s quantified told
          (c.is_quantified_as.ensures.0 yes_it),
      λ same. c.is_quantified_as.ensures.1
          (same_kind g entry.kind c.args.formula.now s quantified told same),
    )

pub returns-in-None : goal.returns-in-None
returns-in-None c quantified g f s is there =
    let found = c.in-None.ensures.lookup in
    absurd (omega (
      arith,
      ltb-false _ _ (sym found.0),
      length-page g f c.args.page.now is,
      get-within (heads_of f) c.args.index s there,
    ))
