use Rattle.esc_session.proofs.Again.{again_ended}
use Rattle.esc_session.proofs.reporting.searched.Goals as goal

pub end_level-requires : goal.end_level-requires
end_level-requires c = record {
  returns = record {
    there = c.args.search.now;
    begun = c.in_ok-level.ensures.begun;
    back = c.proved-report.ensures.levels c.args.search.now
        (c.search_laws.ensures.here c.args.search.now);
    given = c.proved-report.ensures.given;
  };
}

pub returns-clause-again : goal.returns-clause-again
returns-clause-again c =
    let ends = c.end_level.ensures in
    again_ended c.in_ok-level.level c.args.search.now c.proved-report.new.search
    c.end_level.new.self ends.back ends.ready ends.given c.in_ok-level.ensures.begun
    (c.proved-report.ensures.levels c.args.search.now
    (c.search_laws.ensures.here c.args.search.now))
