use Rattle.esc_book.proofs.Locating.{begins_located}
use Rattle.esc_book.proofs.page.locate.Goals as goal

pub returns-then-entry-place : goal.returns-then-entry-place
returns-then-entry-place c g f is =
    let found = c.in-Some.ensures.lookup in
    begins_located g f c.args.page.now is c.args.place c.args.place c.in-Some.entry.now
    found.3.0 found.1 c.if-entry-place.true
