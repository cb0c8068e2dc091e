use Rattle.std.proofs.Common.{◌++◌, ap}
use Rattle.std.proofs.Common.{◌∙◌}
use Rattle.esc_book.specs.Book.{BookView}
use Rattle.esc_book.proofs.Books.{book-longer, grown}
use Rattle.esc_book.proofs.book.Book.log.Goals as goal

pub returns-clause-book : goal.returns-clause-book
returns-clause-book c g is =
    let longer = grown c.self.inside.logged c.push.new.self c.args.formula c.push.result
    c.push.ensures.ok c.push.ensures.err in
    book-longer g c.args.self.now _ longer.0
    (longer.1 ∙ ap (λ (v : BookView). v.logged ++ longer.0) c.self.view_is)
    (ap (λ (v : BookView). v.live) c.self.view_is)
    (ap (λ (v : BookView). v.pages) c.self.view_is) is
