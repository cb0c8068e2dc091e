use Rattle.std.proofs.Common.{◌≡◌, Some, ap, refl, sym, ◌∙◌}
use Rattle.std.specs.List.{slice_get}
use Rattle.esc_term.specs.declared.formula.Formula.{Formula}
use Rattle.esc_clause.specs.Occurrences.{formula_at, occurrences_of}
use Rattle.esc_book.proofs.JudgedFacts.{page-fact, page-formula}
use Rattle.esc_book.proofs.Quantified.{not_located}
use Rattle.esc_book.proofs.judge.BookJudge.is_at.Goals as goal

pub returns-in-Entry : goal.returns-in-Entry
returns-in-Entry c quantified live =
    let v = c.args.self.now.book.now in
    let at = c.args.at in
    let f : Formula = c.args.formula.now in
    let g = c.args.self.now.saying.graph.now in
    let of = c.in-Some.ensures.some in
    let fact = page-fact v at.fact c.in-Some.page.now of g c.requires.ready.book in
    let located = c.in-Entry.ensures g fact.whole fact.is_page in
    let s : Formula = located.0 in
    let there : formula_at v.logged at ≡ Some s =
    page-formula v g at c.in-Some.page.now of fact (Some s) located.2 in
    let both = c.has_quantified.ensures quantified g fact.whole s fact.is_page located.1 in (
      λ t. there ∙ ap Some (both.0 t),
      λ e. both.1 (let same : Some s ≡ Some f = sym there ∙ e in cc),
    )

pub returns-in_default-locate : goal.returns-in_default-locate
returns-in_default-locate c quantified live =
    let v = c.args.self.now.book.now in
    let at = c.args.at in
    let g = c.args.self.now.saying.graph.now in
    let of = c.in-Some.ensures.some in
    let fact = page-fact v at.fact c.in-Some.page.now of g c.requires.ready.book in (
      λ t. cc,
      λ e. absurd (not_located g fact.whole c.args.formula.now c.in-Some.page.now at.place
          c.locate.result c.in_default-locate.not-Entry quantified
          (c.locate.ensures g fact.whole fact.is_page)
          (sym (page-formula v g at c.in-Some.page.now of fact
          (slice_get (occurrences_of fact.whole) at.place) refl) ∙ e)),
    )
