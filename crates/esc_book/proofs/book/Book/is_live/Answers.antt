use Rattle.std.proofs.Common.{◌≡◌, ap, sym, ◌∙◌}
use Rattle.std.specs.Option.{is_some}
use Rattle.esc_book.specs.Book.{BookView, is_live}
use Rattle.esc_book.proofs.Indexing.{any_contains, contains_any, found_any}
use Rattle.esc_book.proofs.book.Book.is_live.Goals as goal

pub returns-clause-test : goal.returns-clause-test
returns-clause-test c =
    c.is_some.ensures ∙ (ap is_some c.find.ensures
    ∙ (found_any 0 c.self.inside.live c.args.place
    ∙ ap (λ (v : BookView). is_live v c.args.place) c.self.view_is))

pub returns-clause-there : goal.returns-clause-there
returns-clause-there c =
    let test : c.is_some.result ≡ is_live c.args.self.now c.args.place =
    c.is_some.ensures ∙ (ap is_some c.find.ensures
    ∙ (found_any 0 c.self.inside.live c.args.place
    ∙ ap (λ (v : BookView). is_live v c.args.place) c.self.view_is)) in (
      λ e. any_contains c.args.self.now.live c.args.place (sym test ∙ e),
      λ h. test ∙ contains_any c.args.self.now.live c.args.place h,
    )
