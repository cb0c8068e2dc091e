use Rattle.std.proofs.Common.{ap, length, subst, sym, ◌∙◌, ◌+◌}
use Rattle.std.proofs.lemmas.List.{length_push}
use Rattle.esc_egraph.specs.declared.state.State.TheVariants as state
use Rattle.esc_search.specs.SearchInside.{IsAt, IsKept, steps_left}
use Rattle.esc_search.proofs.Ending.{refuted_log}
use Rattle.esc_search.proofs.BackTo.{kept_both}
use Rattle.esc_search.proofs.Reaching.{kept_here, nearer_back}
use Rattle.esc_search.proofs.search.Search.go_back.Goals as goal

pub returns-in-None-clause-steps : goal.returns-in-None-clause-steps
returns-in-None-clause-steps c =
    refuted_log c.args.base.now c.args.self.now c.args.course.now c.in-None.ensures.0
    c.requires.here.0 c.requires.here.1

pub returns-in-None-clause-kept : goal.returns-in-None-clause-kept
returns-in-None-clause-kept c =
    subst (IsKept c.args.base.now c.args.self.now c.args.course.now.waiting c.args.self.now)
    (c.in-None.ensures.0 ∙ sym c.in-None.ensures.1)
    (kept_here c.args.base.now c.args.self.now c.args.course.now c.requires.here.0)

pub other_side-requires : goal.other_side-requires
other_side-requires c = record {
  here = subst (λ os. IsAt c.args.base.now c.args.self.now
      (record c.args.course.now { waiting = os }) state.Closed) c.in-Some.ensures
      c.requires.here;
}

pub returns-in-Some-clause-nearer : goal.returns-in-Some-clause-nearer
returns-in-Some-clause-nearer c =
    c.take_side.ensures.nearer (steps_left c.args.self.now c.args.course.now)
    (nearer_back c.args.base.now c.args.self.now c.other_side.new.self c.args.course.now
    c.other_side.new.course c.other_side.ensures.kept c.other_side.ensures.splits
    (ap length c.in-Some.ensures ∙ length_push c.pop.new.self c.in-Some.last
    ∙ ap (λ os. length os + 1) (sym c.other_side.ensures.waiting)))

pub returns-in-Some-clause-kept : goal.returns-in-Some-clause-kept
returns-in-Some-clause-kept c =
    subst (λ os. IsKept c.args.base.now c.args.self.now os c.take_side.new.self
    c.other_side.new.course.waiting) (sym c.in-Some.ensures)
    (kept_both c.args.base.now c.args.self.now c.other_side.new.self c.take_side.new.self
    c.other_side.ensures.kept c.take_side.ensures.kept)
