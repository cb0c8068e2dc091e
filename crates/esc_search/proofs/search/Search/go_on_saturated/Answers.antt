use Rattle.esc_search.proofs.Ending.{left_open}
use Rattle.esc_search.proofs.Reaching.{kept_here}
use Rattle.esc_search.proofs.search.Search.go_on_saturated.Goals as goal

pub returns-in-None-clause-steps : goal.returns-in-None-clause-steps
returns-in-None-clause-steps c =
    left_open c.args.base.now c.args.self.now c.args.course.now c.requires.here.0
    c.requires.here.1 c.in-None.ensures.splits c.requires.saturated

pub returns-in-None-clause-kept : goal.returns-in-None-clause-kept
returns-in-None-clause-kept c =
    kept_here c.args.base.now c.args.self.now c.args.course.now c.requires.here.0
