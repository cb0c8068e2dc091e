use Rattle.std.proofs.Common.{◌≡◌, ◌∷◌, [], ◌++◌, Some, length, ap, sym, subst, ◌∙◌, arith}
use Rattle.std.proofs.lemmas.Grind.{common_steps}
use Rattle.std.proofs.lemmas.Option.{slice_get_read}
use Rattle.std.specs.List.{slice_get}
use Rattle.esc_book.specs.Book.{BookView}
use Rattle.esc_book.proofs.BookNotes.{notes_live}
use Rattle.esc_book.proofs.Books.{book-live, view-same}
use Rattle.esc_book.proofs.book.Book.go_live.Goals as goal

pub returns-clause-book : goal.returns-clause-book
returns-clause-book g c =
    let page = c.in_ok-page.page in
    let longer : c.push-2.new.self.items ≡ c.self.inside.pages.items ++ (page ∷ []) =
    grind (arith, common_steps) in
    let same : c.as_slice.result.now ≡ c.args.self.now.logged =
    c.as_slice.ensures ∙ ap (λ (v : BookView). v.logged) c.self.view_is in
    let there : slice_get c.args.self.now.logged c.args.place
    ≡ Some c.index-as_slice-place.result =
    subst (λ fs. slice_get fs c.args.place ≡ Some c.index-as_slice-place.result) same
    (slice_get_read c.as_slice.result.now (length c.args.self.now.logged) c.args.place
    c.index-as_slice-place.result (sym (ap length same)) c.requires.within
    c.index-as_slice-place.is) in
    book-live c.args.graph.now c.args.self.now _ c.args.place c.index-as_slice-place.result page
    (ap (λ (v : BookView). v.logged) c.self.view_is)
    (c.in_ok-push.ensures.ok
    ∙ ap (λ (v : BookView). v.live ++ (c.args.place ∷ [])) c.self.view_is)
    (longer ∙ ap (λ (v : BookView). v.pages ++ (page ∷ [])) c.self.view_is)
    c.requires.dead there c.in_ok-page.ensures c.requires.book

pub returns-clause-undo : goal.returns-clause-undo
returns-clause-undo g c =
    let page = c.in_ok-page.page in
    let longer : c.push-2.new.self.items ≡ c.self.inside.pages.items ++ (page ∷ []) =
    grind (arith, common_steps) in
    notes_live g.R.Carries.carried _ _ c.args.self.now _ c.args.place page
    (view-same _ _ _ _ _ _ (ap (λ (v : BookView). v.logged) c.self.view_is)
    (c.in_ok-push.ensures.ok
    ∙ ap (λ (v : BookView). v.live ++ (c.args.place ∷ [])) c.self.view_is)
    (longer ∙ ap (λ (v : BookView). v.pages ++ (page ∷ [])) c.self.view_is)) (cc)
