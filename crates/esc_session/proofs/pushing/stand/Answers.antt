use Rattle.std.proofs.Common.{Result, Ok, Err, OnErr}
use Rattle.esc_session.proofs.Again.{again_ended, again_here}
use Rattle.esc_session.proofs.NewStanding.{stands_asserted, stands_closed, stands_stopped}
use Rattle.esc_session.proofs.pushing.stand.Goals as goal

pub returns-in_err-level-clause-again : goal.returns-in_err-level-clause-again
returns-in_err-level-clause-again c = on_err c.from_residual.result (again_here c.args.search.now)
  where
    on_err : {X Y : Type 0} {P : Type 0} (r : Result X Y) → P → OnErr r P
    on_err (Ok x) h = tt
    on_err (Err y) h = h

pub end_level-requires : goal.end_level-requires
end_level-requires c = record {
  returns = record {
    there = c.args.search.now;
    begun = c.in_ok-level.ensures.begun;
    back = c.assert_rest.ensures.levels c.args.search.now
        (c.search_laws.ensures.here c.args.search.now);
    given = c.assert_rest.ensures.given;
  };
}

pub end_level-requires-in-Memory : goal.end_level-requires-in-Memory
end_level-requires-in-Memory c = record {
  returns = record {
    there = c.args.search.now;
    begun = c.in_ok-level.ensures.begun;
    back = c.assert_rest.ensures.levels c.args.search.now
        (c.search_laws.ensures.here c.args.search.now);
    given = c.assert_rest.ensures.given;
  };
}

pub returns-in-Open-clause-stands : goal.returns-in-Open-clause-stands
returns-in-Open-clause-stands c =
    stands_asserted c.args.base.now c.requires.no_goal c.args.search.now c.assert_rest.new.search
    c.in_ok-level.level c.in_ok-level.ensures.begun
    (c.assert_rest.ensures.levels c.args.search.now
    (c.search_laws.ensures.here c.args.search.now))
    c.in-Open.ensures.ends

pub returns-in-Closed-clause-stands : goal.returns-in-Closed-clause-stands
returns-in-Closed-clause-stands c =
    stands_closed c.args.base.now c.requires.no_goal c.args.search.now c.assert_rest.new.search
    c.in_ok-level.level c.in_ok-level.ensures.begun
    (c.assert_rest.ensures.levels c.args.search.now
    (c.search_laws.ensures.here c.args.search.now))
    c.refutation_laws.ensures.more c.assert_rest.ensures.given c.in-Closed.ensures.ends

pub returns-in-Stopped-clause-stands : goal.returns-in-Stopped-clause-stands
returns-in-Stopped-clause-stands c =
    stands_stopped c.args.base.now c.requires.no_goal c.args.search.now c.assert_rest.new.search
    c.end_level.new.self c.in-Stopped.cause c.assert_rest.ensures.limits
    c.in-Stopped.ensures.ends
    (again_ended c.in_ok-level.level c.args.search.now c.assert_rest.new.search
    c.end_level.new.self c.end_level.ensures.back c.end_level.ensures.ready
    c.end_level.ensures.given c.in_ok-level.ensures.begun
    (c.assert_rest.ensures.levels c.args.search.now
    (c.search_laws.ensures.here c.args.search.now)))

pub returns-in-Stopped-clause-limits : goal.returns-in-Stopped-clause-limits
returns-in-Stopped-clause-limits c =
    (c.end_level.ensures.back.as_before c.args.search.now c.in_ok-level.ensures.begun
    (c.assert_rest.ensures.levels c.args.search.now
    (c.search_laws.ensures.here c.args.search.now))).limits

pub returns-in-Memory-clause-again : goal.returns-in-Memory-clause-again
returns-in-Memory-clause-again c =
    again_ended c.in_ok-level.level c.args.search.now c.assert_rest.new.search
    c.end_level-in-Memory.new.self c.end_level-in-Memory.ensures.back
    c.end_level-in-Memory.ensures.ready c.end_level-in-Memory.ensures.given
    c.in_ok-level.ensures.begun
    (c.assert_rest.ensures.levels c.args.search.now
    (c.search_laws.ensures.here c.args.search.now))

pub returns-in-Memory-clause-limits : goal.returns-in-Memory-clause-limits
returns-in-Memory-clause-limits c =
    (c.end_level-in-Memory.ensures.back.as_before c.args.search.now c.in_ok-level.ensures.begun
    (c.assert_rest.ensures.levels c.args.search.now
    (c.search_laws.ensures.here c.args.search.now))).limits
