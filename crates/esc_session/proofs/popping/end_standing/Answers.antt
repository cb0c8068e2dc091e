use Rattle.std.proofs.Common.{subst}
use Rattle.esc_search.specs.declared.search.Search.{Search}
use Rattle.esc_session.specs.Back.{IsAgain}
use Rattle.esc_session.specs.PoppingInside.{WasBefore}
use Rattle.esc_session.specs.declared.batch.Standing.{Standing}
use Rattle.esc_session.proofs.Again.{again_ended, again_here}
use Rattle.esc_session.proofs.popping.end_standing.Goals as goal

pub returns-in-Asserted-clause-again : goal.returns-in-Asserted-clause-again
returns-in-Asserted-clause-again c there was =
    let ends = c.end_level.ensures in
    let begun = subst (λ (standing : Standing). WasBefore c.args.search.now standing there)
    c.in-Asserted.is was in
    again_ended c.in-Asserted.level there c.args.search.now c.end_level.new.self ends.back
    ends.ready ends.given begun.0 begun.1

pub returns-in-Closed-clause-again : goal.returns-in-Closed-clause-again
returns-in-Closed-clause-again c there was =
    let ends = c.end_level-in-Closed.ensures in
    let begun = subst (λ (standing : Standing). WasBefore c.args.search.now standing there)
    c.in-Closed.is was in
    again_ended c.in-Closed.level there c.args.search.now c.end_level-in-Closed.new.self ends.back
    ends.ready ends.given begun.0 begun.1

pub returns-in-Stopped-clause-again : goal.returns-in-Stopped-clause-again
returns-in-Stopped-clause-again c there was =
    let same = subst (λ (standing : Standing). WasBefore c.args.search.now standing there)
    c.in-Stopped.is was in
    subst (λ (s : Search). IsAgain s c.args.search.now) same (again_here c.args.search.now)

pub returns-in-Behind-clause-again : goal.returns-in-Behind-clause-again
returns-in-Behind-clause-again c there was =
    let same = subst (λ (standing : Standing). WasBefore c.args.search.now standing there)
    c.in-Behind.is was in
    subst (λ (s : Search). IsAgain s c.args.search.now) same (again_here c.args.search.now)
