use Rattle.esc_search.specs.SearchInside.{steps_left}
use Rattle.esc_search.proofs.BackTo.{kept_both}
use Rattle.esc_search.proofs.search.Search.split.Goals as goal

pub returns-in-Ok-clause-nearer : goal.returns-in-Ok-clause-nearer
returns-in-Ok-clause-nearer c =
    c.take_side.ensures.nearer (steps_left c.args.self.now c.args.course.now)
    c.in-Ok.ensures.nearer

pub returns-in-Ok-clause-kept : goal.returns-in-Ok-clause-kept
returns-in-Ok-clause-kept c =
    kept_both c.args.base.now c.args.self.now c.open_split.new.self c.take_side.new.self
    c.open_split.ensures.kept c.take_side.ensures.kept
