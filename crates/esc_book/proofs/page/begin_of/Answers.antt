use Rattle.std.proofs.Common.{arith, sym}
use Rattle.std.proofs.lemmas.Bool.{ltb-false}
use Rattle.esc_book.specs.Book.{heads_of}
use Rattle.esc_book.proofs.Reading.{begin_there, get-within, length-page}
use Rattle.esc_book.proofs.page.begin_of.Goals as goal

pub returns-in-Some : goal.returns-in-Some
returns-in-Some c g f s is there =
    let found = c.in-Some.ensures.lookup in
    begin_there g f c.args.page.now is c.args.index c.in-Some.entry.now found.3.0 found.1

pub returns-in-None : goal.returns-in-None
returns-in-None c g f s is there =
    let found = c.in-None.ensures.lookup in
    absurd (omega (
      arith,
      ltb-false _ _ (sym found.0),
      length-page g f c.args.page.now is,
      get-within (heads_of f) c.args.index s there,
    ))
