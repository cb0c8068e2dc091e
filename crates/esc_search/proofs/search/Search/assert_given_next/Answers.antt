use Rattle.std.proofs.Common.{arith, ap, length, subst, sym, ◌∙◌, ◌≤◌, List, Ok}
use Rattle.esc_egraph.specs.declared.state.State.{State}
use Rattle.esc_fact.specs.declared.fact.Fact.{Fact}
use Rattle.esc_search.specs.SearchInside.{GoesLive}
use Rattle.esc_search.proofs.Given.{given_stops, ready_begun}
use Rattle.esc_search.proofs.search.Search.assert_given_next.Goals as goal

pub assert_next-requires : goal.assert_next-requires
assert_next-requires c = record {
  begun = c.requires.logged.begun;
  place = c.live_count-place.ensures;
  more = omega (arith, c.requires.logged.last);
}

pub returns-in-Ok-Open-clause-ends : goal.returns-in-Ok-Open-clause-ends
returns-in-Ok-Open-clause-ends c =
    ready_begun c.args.base.now c.assert_next.new.self
    (subst (λ (x : State). GoesLive c.args.base.now c.assert_next.new.self (Ok x))
    c.in-Ok-Open.field-0-is c.in-Ok-Open.ensures.goes)
    (ap length c.assert_next.ensures.log ∙ (c.requires.logged.last
    ∙ sym (c.in-Ok-Open.ensures.live (ap Ok c.in-Ok-Open.field-0-is))))
    (subst (λ (facts : List Fact). length facts ≤ length c.args.base.now.background)
    (sym c.assert_next.ensures.log) c.requires.logged.without_goal)

pub returns-in-Ok-Closed-clause-ends : goal.returns-in-Ok-Closed-clause-ends
returns-in-Ok-Closed-clause-ends c =
    subst (λ (x : State). GoesLive c.args.base.now c.assert_next.new.self (Ok x))
    c.in-Ok-Closed.field-0-is c.in-Ok-Closed.ensures.goes

pub returns-in-Err-clause-ends : goal.returns-in-Err-clause-ends
returns-in-Err-clause-ends c =
    given_stops c.args.base.now c.assert_next.new.self c.stopped_by.result
    c.stopped_by.ensures.comes c.stopped_by.ensures.arithmetic
