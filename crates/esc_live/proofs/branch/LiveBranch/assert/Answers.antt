use Rattle.std.proofs.Common.{◌≡◌, inl, [], ◌∷◌, Ok, Err, ap, sym, subst, ◌∙◌}
use Rattle.esc_book.specs.Book.{IsLiveOccurrence}
use Rattle.esc_egraph.specs.declared.state.State.TheVariants as State
use Rattle.esc_tableau.proofs.RunLaws.{err_is}
use Rattle.esc_live.specs.Calls.{Ends, HoldsWithFact, MeansMore}
use Rattle.esc_live.specs.Promises.{IsGiven}
use Rattle.esc_live.specs.StandingInside.{Asserts, Brings}
use Rattle.esc_live.specs.declared.branch.LiveBranch.{LiveBranch}
use Rattle.esc_live.proofs.FactCalls.{brought_book, brought_decisions, brought_literals}
use Rattle.esc_live.proofs.FactCalls.{brought_logged, brought_new, brought_stop, brought_terms}
use Rattle.esc_live.proofs.FactCalls.{brought_there, default_rest, fact, fact_there, steps_decisions}
use Rattle.esc_live.proofs.FactCalls.{steps_literals, steps_live, steps_logged, steps_means, went_given}
use Rattle.esc_live.proofs.FactCalls.{went_limit}
use Rattle.esc_live.proofs.FactLive.{brought_ends, fact_went, standing_went, whole_went}
use Rattle.esc_live.proofs.LiveNotes.{live_both}
use Rattle.esc_live.proofs.branch.LiveBranch.assert.Goals as goal

pub go_live-requires-clause-book : goal.go_live-requires-clause-book
go_live-requires-clause-book c =
    let f = fact c.args.self.now c.bring.new.self c.bring.ensures.rest c.requires.branch
    c.args.place c.requires.there in
    let stays : c.bring.result ≡ Ok State.Open = c.in_ok-bring.was ∙ ap Ok c.in-Open.is in
    brought_book c.args.self.now c.bring.new.self c.bring.ensures.rest c.requires.branch
    c.args.place c.requires.there
    (subst (Brings c.args.self.now c.bring.new.self f) stays (c.bring.ensures.ends f
    (fact_there c.args.self.now c.bring.new.self c.bring.ensures.rest c.requires.branch
    c.args.place c.requires.there)))
    c.book_laws.ensures.stays

pub go_live-requires-clause-there : goal.go_live-requires-clause-there
go_live-requires-clause-there c =
    brought_there c.args.self.now c.bring.new.self c.bring.ensures.rest c.requires.branch
    c.args.place c.requires.there

pub go_live-requires-clause-new : goal.go_live-requires-clause-new
go_live-requires-clause-new c =
    brought_new c.args.self.now c.bring.new.self c.bring.ensures.rest c.requires.branch
    c.args.place c.requires.there c.requires.new

pub go_live-requires-clause-terms : goal.go_live-requires-clause-terms
go_live-requires-clause-terms c f there =
    let g = fact c.args.self.now c.bring.new.self c.bring.ensures.rest c.requires.branch
    c.args.place c.requires.there in
    let stays : c.bring.result ≡ Ok State.Open = c.in_ok-bring.was ∙ ap Ok c.in-Open.is in
    brought_terms c.args.self.now c.bring.new.self c.bring.ensures.rest c.requires.branch
    c.args.place c.requires.there
    (subst (Brings c.args.self.now c.bring.new.self g) stays (c.bring.ensures.ends g
    (fact_there c.args.self.now c.bring.new.self c.bring.ensures.rest c.requires.branch
    c.args.place c.requires.there)))
    f there

pub assert_occurrence-requires-clause-standing : goal.assert_occurrence-requires-clause-standing
assert_occurrence-requires-clause-standing c =
    let g = fact c.args.self.now c.bring.new.self c.bring.ensures.rest c.requires.branch
    c.args.place c.requires.there in
    let is = fact_there c.args.self.now c.bring.new.self c.bring.ensures.rest c.requires.branch
    c.args.place c.requires.there in
    let stays : c.bring.result ≡ Ok State.Open = c.in_ok-bring.was ∙ ap Ok c.in-Open.is in
    standing_went c.args.self.now c.bring.new.self c.go_live.new.self c.requires.branch
    c.args.place g is c.bring.ensures.rest
    (subst (Brings c.args.self.now c.bring.new.self g) stays (c.bring.ensures.ends g is))
    c.go_live.ensures.rest c.go_live.ensures.logged c.in-Ok.ensures.live c.go_live.ensures.book

pub assert_occurrence-requires-clause-given : goal.assert_occurrence-requires-clause-given
assert_occurrence-requires-clause-given c =
    went_given c.args.self.now c.bring.new.self c.go_live.new.self c.bring.ensures.rest
    c.go_live.ensures.rest c.go_live.ensures.logged c.bring.ensures.given

pub assert_occurrence-requires-clause-live : goal.assert_occurrence-requires-clause-live
assert_occurrence-requires-clause-live c =
    let g = fact c.args.self.now c.bring.new.self c.bring.ensures.rest c.requires.branch
    c.args.place c.requires.there in
    let is = fact_there c.args.self.now c.bring.new.self c.bring.ensures.rest c.requires.branch
    c.args.place c.requires.there in
    let stays : c.bring.result ≡ Ok State.Open = c.in_ok-bring.was ∙ ap Ok c.in-Open.is in
    subst (IsLiveOccurrence c.go_live.new.self.book) (sym c.whole.ensures)
    (whole_went c.args.self.now c.bring.new.self c.go_live.new.self c.requires.branch
    c.args.place g is c.bring.ensures.rest
    (subst (Brings c.args.self.now c.bring.new.self g) stays (c.bring.ensures.ends g is))
    c.go_live.ensures.rest c.go_live.ensures.logged c.in-Ok.ensures.live c.go_live.ensures.book)

-- ---- it was asserted

pub returns-clause-ends : goal.returns-clause-ends
returns-clause-ends c =
    let g = fact c.args.self.now c.bring.new.self c.bring.ensures.rest c.requires.branch
    c.args.place c.requires.there in
    let is = fact_there c.args.self.now c.bring.new.self c.bring.ensures.rest c.requires.branch
    c.args.place c.requires.there in
    let stays : c.bring.result ≡ Ok State.Open = c.in_ok-bring.was ∙ ap Ok c.in-Open.is in
    fact_went c.args.self.now c.bring.new.self c.go_live.new.self c.requires.branch
    c.args.place g is c.bring.ensures.rest
    (subst (Brings c.args.self.now c.bring.new.self g) stays (c.bring.ensures.ends g is))
    c.go_live.ensures.rest c.go_live.ensures.logged c.in-Ok.ensures.live c.go_live.ensures.book
    c.assert_occurrence.new.self c.assert_occurrence.ensures.steps c.assert_occurrence.result
    (subst (λ o. Asserts c.go_live.new.self c.assert_occurrence.new.self (o ∷ [])
    c.assert_occurrence.result) c.whole.ensures c.assert_occurrence.ensures.ends)

pub returns-clause-live : goal.returns-clause-live
returns-clause-live c same =
    steps_live c.args.self.now c.bring.new.self c.go_live.new.self c.bring.ensures.rest
    c.go_live.ensures.rest c.go_live.ensures.logged c.assert_occurrence.new.self
    c.assert_occurrence.ensures.steps c.args.place c.in-Ok.ensures.live

pub returns-clause-stop : goal.returns-clause-stop
returns-clause-stop c =
    inl (steps_live c.args.self.now c.bring.new.self c.go_live.new.self c.bring.ensures.rest
    c.go_live.ensures.rest c.go_live.ensures.logged c.assert_occurrence.new.self
    c.assert_occurrence.ensures.steps c.args.place c.in-Ok.ensures.live)

pub returns-clause-literals : goal.returns-clause-literals
returns-clause-literals c =
    steps_literals c.args.self.now c.bring.new.self c.go_live.new.self c.bring.ensures.rest
    c.go_live.ensures.rest c.go_live.ensures.logged c.assert_occurrence.new.self
    c.assert_occurrence.ensures.steps

pub returns-clause-logged : goal.returns-clause-logged
returns-clause-logged c =
    steps_logged c.args.self.now c.bring.new.self c.go_live.new.self c.bring.ensures.rest
    c.go_live.ensures.rest c.go_live.ensures.logged c.assert_occurrence.new.self
    c.assert_occurrence.ensures.steps

pub returns-clause-decisions : goal.returns-clause-decisions
returns-clause-decisions c =
    steps_decisions c.args.self.now c.bring.new.self c.go_live.new.self c.bring.ensures.rest
    c.go_live.ensures.rest c.go_live.ensures.logged c.assert_occurrence.new.self
    c.assert_occurrence.ensures.steps

pub returns-clause-limit : goal.returns-clause-limit
returns-clause-limit c =
    c.assert_occurrence.ensures.steps.limit
    ∙ went_limit c.args.self.now c.bring.new.self c.go_live.new.self c.bring.ensures.rest
    c.go_live.ensures.rest c.go_live.ensures.logged c.bring.ensures.limit

pub returns-clause-given : goal.returns-clause-given
returns-clause-given c = c.assert_occurrence.ensures.steps.given

pub returns-clause-means : goal.returns-clause-means
returns-clause-means c =
    steps_means c.args.self.now c.bring.new.self c.go_live.new.self c.bring.ensures.rest
    c.go_live.ensures.rest c.go_live.ensures.logged c.assert_occurrence.new.self
    c.assert_occurrence.ensures.steps c.bring.ensures.means

pub returns-clause-undo : goal.returns-clause-undo
returns-clause-undo c =
    live_both _ _ _ _ _ _ c.bring.ensures.undo
    (live_both _ _ _ _ _ _ c.go_live.ensures.undo c.assert_occurrence.ensures.undo)

-- ---- it closes before it is live

pub returns-in-Closed-clause-ends : goal.returns-in-Closed-clause-ends
returns-in-Closed-clause-ends c =
    let g = fact c.args.self.now c.bring.new.self c.bring.ensures.rest c.requires.branch
    c.args.place c.requires.there in
    let is = fact_there c.args.self.now c.bring.new.self c.bring.ensures.rest c.requires.branch
    c.args.place c.requires.there in
    let closes : c.bring.result ≡ Ok State.Closed = c.in_ok-bring.was ∙ ap Ok c.in-Closed.is in
    brought_ends c.args.self.now c.bring.new.self g c.args.place (Ok State.Closed) (λ e. cc)
    (subst (Brings c.args.self.now c.bring.new.self g) closes (c.bring.ensures.ends g is))

pub returns-in-Closed-clause-stop : goal.returns-in-Closed-clause-stop
returns-in-Closed-clause-stop c =
    brought_stop c.args.self.now c.bring.new.self c.bring.ensures.rest c.args.place

pub returns-in-Closed-clause-literals : goal.returns-in-Closed-clause-literals
returns-in-Closed-clause-literals c =
    brought_literals c.args.self.now c.bring.new.self c.bring.ensures.rest

pub returns-in-Closed-clause-logged : goal.returns-in-Closed-clause-logged
returns-in-Closed-clause-logged c =
    brought_logged c.args.self.now c.bring.new.self c.bring.ensures.rest

pub returns-in-Closed-clause-decisions : goal.returns-in-Closed-clause-decisions
returns-in-Closed-clause-decisions c =
    brought_decisions c.args.self.now c.bring.new.self c.bring.ensures.rest

-- ---- it stops before it is live

pub returns-in_err-bring-clause-ends : goal.returns-in_err-bring-clause-ends
returns-in_err-bring-clause-ends c =
    let g = fact c.args.self.now c.bring.new.self c.bring.ensures.rest c.requires.branch
    c.args.place c.requires.there in
    let is = fact_there c.args.self.now c.bring.new.self c.bring.ensures.rest c.requires.branch
    c.args.place c.requires.there in
    subst (Ends c.bring.new.self (HoldsWithFact c.args.self.now c.args.place))
    (sym (err_is c.from_residual.result c.in_err-bring.field-0.0 c.from_residual.ensures))
    (brought_ends c.args.self.now c.bring.new.self g c.args.place
    (Err c.in_err-bring.field-0.0) (λ e. cc)
    (subst (Brings c.args.self.now c.bring.new.self g) c.in_err-bring.was
    (c.bring.ensures.ends g is)))

pub returns-in_err-bring-clause-stop : goal.returns-in_err-bring-clause-stop
returns-in_err-bring-clause-stop c =
    brought_stop c.args.self.now c.bring.new.self c.bring.ensures.rest c.args.place

pub returns-in_err-bring-clause-literals : goal.returns-in_err-bring-clause-literals
returns-in_err-bring-clause-literals c =
    brought_literals c.args.self.now c.bring.new.self c.bring.ensures.rest

pub returns-in_err-bring-clause-logged : goal.returns-in_err-bring-clause-logged
returns-in_err-bring-clause-logged c =
    brought_logged c.args.self.now c.bring.new.self c.bring.ensures.rest

pub returns-in_err-bring-clause-decisions : goal.returns-in_err-bring-clause-decisions
returns-in_err-bring-clause-decisions c =
    brought_decisions c.args.self.now c.bring.new.self c.bring.ensures.rest

-- ---- memory is wanting

pub returns-in_default-clause-stop : goal.returns-in_default-clause-stop
returns-in_default-clause-stop c =
    brought_stop c.args.self.now c.go_live.new.self (default_rest c.args.self.now c.bring.new.self
    c.go_live.new.self c.bring.ensures.rest c.in_default.ensures.err) c.args.place

pub returns-in_default-clause-literals : goal.returns-in_default-clause-literals
returns-in_default-clause-literals c =
    brought_literals c.args.self.now c.go_live.new.self (default_rest c.args.self.now
    c.bring.new.self c.go_live.new.self c.bring.ensures.rest c.in_default.ensures.err)

pub returns-in_default-clause-logged : goal.returns-in_default-clause-logged
returns-in_default-clause-logged c =
    brought_logged c.args.self.now c.go_live.new.self (default_rest c.args.self.now
    c.bring.new.self c.go_live.new.self c.bring.ensures.rest c.in_default.ensures.err)

pub returns-in_default-clause-decisions : goal.returns-in_default-clause-decisions
returns-in_default-clause-decisions c =
    brought_decisions c.args.self.now c.go_live.new.self (default_rest c.args.self.now
    c.bring.new.self c.go_live.new.self c.bring.ensures.rest c.in_default.ensures.err)

pub returns-in_default-clause-limit : goal.returns-in_default-clause-limit
returns-in_default-clause-limit c =
    ap (λ (x : LiveBranch). x.sharing.theory.limit) c.in_default.ensures.err
    ∙ c.bring.ensures.limit

pub returns-in_default-clause-given : goal.returns-in_default-clause-given
returns-in_default-clause-given c =
    subst IsGiven (sym c.in_default.ensures.err) c.bring.ensures.given

pub returns-in_default-clause-means : goal.returns-in_default-clause-means
returns-in_default-clause-means c =
    subst (MeansMore c.args.self.now) (sym c.in_default.ensures.err) c.bring.ensures.means

pub returns-in_default-clause-undo : goal.returns-in_default-clause-undo
returns-in_default-clause-undo c =
    live_both _ _ _ _ _ _ c.bring.ensures.undo c.go_live.ensures.undo
