use Rattle.std.proofs.Common.{subst}
use Rattle.esc_book.specs.Book.{heads_of}
use Rattle.esc_book.specs.WritingInside.{Writes}
use Rattle.esc_book.proofs.Writings.{page_from}
use Rattle.esc_book.proofs.writing.page_of.Goals as goal

pub returns : goal.returns
returns c =
    page_from c.args.graph.now c.args.formula.now c.write.new.page c.in_ok-write.field-0
    (subst (λ es. Writes c.args.graph.now (heads_of c.args.formula.now) 0 es c.write.new.page
    c.in_ok-write.field-0) c.new-page.ensures c.in_ok-write.ensures)
