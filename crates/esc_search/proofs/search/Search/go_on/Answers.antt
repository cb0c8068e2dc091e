use Rattle.std.proofs.Common.{subst}
use Rattle.esc_search.specs.SearchInside.{IsNearer, steps_left}
use Rattle.esc_search.proofs.BackTo.{kept_both}
use Rattle.esc_search.proofs.Reaching.{steps_same}
use Rattle.esc_search.proofs.search.Search.go_on.Goals as goal

pub returns-in-Ok-Open-clause-nearer : goal.returns-in-Ok-Open-clause-nearer
returns-in-Ok-Open-clause-nearer c =
    subst (λ n. IsNearer n (steps_left c.go_on_refined.new.self c.go_on_refined.new.course)
    c.go_on_refined.result)
    (steps_same c.args.base.now c.args.self.now c.refine_here.new.self c.args.course.now
    c.refine_here.ensures.kept c.refine_here.ensures.splits) c.go_on_refined.ensures.nearer

pub returns-in-Ok-Closed-clause-nearer : goal.returns-in-Ok-Closed-clause-nearer
returns-in-Ok-Closed-clause-nearer c =
    subst (λ n. IsNearer n (steps_left c.go_back.new.self c.go_back.new.course)
    c.go_back.result)
    (steps_same c.args.base.now c.args.self.now c.refine_here.new.self c.args.course.now
    c.refine_here.ensures.kept c.refine_here.ensures.splits) c.go_back.ensures.nearer

pub returns-in-Ok-Open-clause-kept : goal.returns-in-Ok-Open-clause-kept
returns-in-Ok-Open-clause-kept c =
    kept_both c.args.base.now c.args.self.now c.refine_here.new.self c.go_on_refined.new.self
    c.refine_here.ensures.kept c.go_on_refined.ensures.kept

pub returns-in-Ok-Closed-clause-kept : goal.returns-in-Ok-Closed-clause-kept
returns-in-Ok-Closed-clause-kept c =
    kept_both c.args.base.now c.args.self.now c.refine_here.new.self c.go_back.new.self
    c.refine_here.ensures.kept c.go_back.ensures.kept
