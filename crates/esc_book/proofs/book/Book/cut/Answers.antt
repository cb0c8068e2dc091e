use Rattle.std.proofs.Common.{take, ap, arith, ◌∙◌}
use Rattle.esc_book.specs.Book.{BookView}
use Rattle.esc_book.proofs.Books.{book-cut, cut_done, view-same}
use Rattle.esc_book.proofs.book.Book.cut.Goals as goal

pub returns-clause-cut : goal.returns-clause-cut
returns-clause-cut c =
    view-same _ _ _ _ _ _
    (cut_done c.args.len c.self.inside.logged c.formulas.self-inside.logged
    c.formulas.invariant.many (omega (arith, c.formulas-test.false, c.len.ensures))
    c.formulas.invariant.first ∙ ap (λ (v : BookView). take c.args.len v.logged) c.self.view_is)
    (c.formulas.invariant.live ∙ ap (λ (v : BookView). v.live) c.self.view_is)
    (c.formulas.invariant.pages ∙ ap (λ (v : BookView). v.pages) c.self.view_is)

pub returns-clause-book : goal.returns-clause-book
returns-clause-book c g is =
    let logged = cut_done c.args.len c.self.inside.logged c.formulas.self-inside.logged
    c.formulas.invariant.many (omega (arith, c.formulas-test.false, c.len.ensures))
    c.formulas.invariant.first
    ∙ ap (λ (v : BookView). take c.args.len v.logged) c.self.view_is in
    book-cut g c.args.self.now _ c.args.len c.requires.within c.requires.live logged
    (omega (arith, c.formulas.invariant.many, c.formulas-test.false, c.len.ensures))
    (c.formulas.invariant.live ∙ ap (λ (v : BookView). v.live) c.self.view_is)
    (c.formulas.invariant.pages ∙ ap (λ (v : BookView). v.pages) c.self.view_is) is
