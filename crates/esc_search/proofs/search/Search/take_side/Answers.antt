use Rattle.esc_search.specs.SearchInside.{steps_left}
use Rattle.esc_search.proofs.Reaching.{steps_kept}
use Rattle.esc_search.proofs.search.Search.take_side.Goals as goal

pub returns-clause-nearer : goal.returns-clause-nearer
returns-clause-nearer c = λ before h.
    c.go_from.ensures.nearer before (steps_left c.decide-reached.new.self c.args.course.now)
    (steps_kept c.args.base.now c.args.self.now c.decide-reached.new.self c.args.course.now before
    c.decide-reached.ensures.kept c.decide-reached.ensures.splits h)
