use Rattle.std.proofs.Common.{[], ap, length, refl, subst, sym, ◌<◌, ◌∙◌, ◌≡◌, ◌∷◌, ◌++◌, ℕ}
use Rattle.std.specs.Prelude.{Ok}
use Rattle.std.proofs.lemmas.List.{length_push}
use Rattle.std.specs.List.{Contains}
use Rattle.esc_egraph.specs.declared.state.State.TheVariants as state
use Rattle.esc_live.specs.Calls.{Ends, GoesLiveOrNothing, HoldsWithFact}
use Rattle.esc_search.proofs.Asserting.{begins, place_new, place_within}
use Rattle.esc_search.proofs.BackTo.{kept_since, since_call}
use Rattle.esc_search.proofs.search.Search.go_live.Goals as goal

pub assert-requires-clause-there : goal.assert-requires-clause-there
assert-requires-clause-there c =
    subst (λ (k : ℕ). k < length c.args.self.now.branch.book.logged) (sym c.requires.place)
    (place_within c.args.base.now c.args.self.now c.requires.begun c.requires.more)

pub assert-requires-clause-new : goal.assert-requires-clause-new
assert-requires-clause-new c =
    subst (λ (k : ℕ). Contains c.args.self.now.branch.book.live k → ⊥) (sym c.requires.place)
    (place_new c.args.base.now c.args.self.now c.requires.begun c.requires.more)

pub returns-clause-goes : goal.returns-clause-goes
returns-clause-goes c =
    let v = c.args.self.now.branch in
    let w = c.assert.new.self in
    begins c.args.base.now c.args.self.now c.requires.begun c.requires.more w
    c.assert.new.trail c.assert.ensures.given c.assert.ensures.logged c.assert.ensures.limit
    c.assert.result
    (subst (λ (k : ℕ). Ends w (HoldsWithFact v k) c.assert.result) c.requires.place
    c.assert.ensures.ends)
    (subst (λ (k : ℕ). c.assert.result ≡ Ok state.Open → w.book.live ≡ v.book.live ++ k ∷ [])
    c.requires.place c.assert.ensures.live)
    (subst (λ (k : ℕ). GoesLiveOrNothing v w k) c.requires.place c.assert.ensures.stop)

pub returns-clause-live : goal.returns-clause-live
returns-clause-live c = λ is.
    ap length (c.assert.ensures.live is)
    ∙ length_push c.args.self.now.branch.book.live c.args.place

pub returns-clause-kept : goal.returns-clause-kept
returns-clause-kept c =
    kept_since c.args.base.now c.args.self.now [] _ c.assert.ensures.given
    (c.assert.ensures.logged ∙ c.requires.begun.formulas) refl
    (since_call c.args.self.now c.assert.new.self c.assert.new.trail c.assert.ensures.undo
    c.assert.ensures.means c.assert.ensures.logged)
