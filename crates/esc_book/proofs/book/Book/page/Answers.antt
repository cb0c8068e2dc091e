use Rattle.std.proofs.Common.{◌≡◌, ◌+◌, ◌<◌, Some, length, refl, ap, sym, subst, ◌∙◌, arith}
use Rattle.std.proofs.lemmas.Option.{slice_get_read}
use Rattle.std.specs.Option.{is_some}
use Rattle.esc_book.specs.Book.{BookView, is_live}
use Rattle.esc_book.specs.JudgingInside.{IsPageOf}
use Rattle.esc_book.proofs.Indexing.{found_any, found_is, found_within}
use Rattle.esc_book.proofs.book.Book.page.Goals as goal

pub index-requires : goal.index-requires
index-requires c =
    let found = found_within 0 c.self.inside.live c.args.fact c.in-Some.place
    (sym c.find.ensures ∙ c.in-Some.is) in
    omega (
      arith,
      found.1,
      ap (λ (v : BookView). length v.live) c.self.view_is,
      ap (λ (v : BookView). length v.pages) c.self.view_is,
      c.requires.book.1.as_many,
    )

pub returns-in-Some-clause-some : goal.returns-in-Some-clause-some
returns-in-Some-clause-some c =
    let pages = c.self.inside.pages.items in
    let zero_more : c.in-Some.place ≡ 0 + c.in-Some.place = omega arith in
    let found = found_within 0 c.self.inside.live c.args.fact c.in-Some.place
    (sym c.find.ensures ∙ c.in-Some.is) in
    let within : c.in-Some.place < length pages =
    omega (
      arith,
      found.1,
      ap (λ (v : BookView). length v.live) c.self.view_is,
      ap (λ (v : BookView). length v.pages) c.self.view_is,
      c.requires.book.1.as_many,
    ) in
    subst (λ (v : BookView). IsPageOf v c.args.fact c.as_slice.result.now) c.self.view_is (record {
      index = c.in-Some.place;
      live = found_is 0 c.self.inside.live c.args.fact c.in-Some.place
          (sym c.find.ensures ∙ (c.in-Some.is ∙ ap (λ n. Some n) zero_more));
      written = slice_get_read pages (length pages) c.in-Some.place c.index.result.now refl
          within c.index.ensures ∙ ap (λ p. Some p) (sym c.as_slice.ensures);
    })

pub returns-in-None-clause-none : goal.returns-in-None-clause-none
returns-in-None-clause-none c e =
    ap (λ (v : BookView). is_live v c.args.fact) (sym c.self.view_is)
    ∙ (sym (found_any 0 c.self.inside.live c.args.fact)
    ∙ (ap is_some (sym c.find.ensures) ∙ ap is_some c.in-None.is))
