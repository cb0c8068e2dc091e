use Rattle.std.proofs.Common.{[], ap, refl, ◌∙◌}
use Rattle.esc_book.specs.Book.{BookView}
use Rattle.esc_search.proofs.BackTo.{kept_since, since_call}
use Rattle.esc_search.proofs.Refined.{refines}
use Rattle.esc_search.proofs.search.Search.refine_begun.Goals as goal

pub returns-clause-goes : goal.returns-clause-goes
returns-clause-goes c =
    refines c.args.base.now c.args.self.now c.requires.begun c.refine.new.branch
    c.refine.new.trail c.refine.ensures.goes_on c.refine.ensures.given c.refine.result
    c.refine.ensures.ends

pub returns-clause-live : goal.returns-clause-live
returns-clause-live c = ap (λ (b : BookView). b.live) c.refine.ensures.goes_on.book

pub returns-clause-kept : goal.returns-clause-kept
returns-clause-kept c =
    let logged = ap (λ (b : BookView). b.logged) c.refine.ensures.goes_on.book in
    kept_since c.args.base.now c.args.self.now [] _ c.refine.ensures.given
    (logged ∙ c.requires.begun.formulas) refl
    (since_call c.args.self.now c.refine.new.branch c.refine.new.trail c.refine.ensures.undo
    c.refine.ensures.goes_on.means logged)
