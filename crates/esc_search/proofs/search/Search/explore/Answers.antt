use Rattle.std.proofs.Common.{[], subst, subst₂, sym}
use Rattle.esc_egraph.specs.declared.state.State.TheVariants as state
use Rattle.esc_search.specs.SearchInside.{IsAt, IsKept}
use Rattle.esc_search.proofs.BackTo.{kept_both, kept_ended}
use Rattle.esc_search.proofs.Reaching.{kept_here}
use Rattle.esc_search.proofs.Starting.{new_course}
use Rattle.esc_search.proofs.search.Search.explore.Goals as goal

pub steps-init : goal.steps-init
steps-init c = record {
  here = subst₂ (λ os starts. IsAt c.args.base.now c.args.self.now
      (record { waiting = os; starts = starts }) state.Open)
      (sym c.new.ensures) (sym c.new-2.ensures) c.requires.here;
  kept = subst (λ os. IsKept c.args.base.now c.args.self.now [] c.args.self.now os)
      (sym c.new.ensures)
      (kept_here c.args.base.now c.args.self.now new_course c.requires.here.0);
}

pub steps-preserved : goal.steps-preserved
steps-preserved c = record {
  here = c.in-Goes.ensures.steps;
  kept = kept_both c.args.base.now c.args.self.now c.steps.self c.step.new.self
      c.steps.invariant.kept c.step.ensures.kept;
}

pub returns-in-Ends-clause-kept : goal.returns-in-Ends-clause-kept
returns-in-Ends-clause-kept c =
    kept_ended c.args.base.now c.args.self.now c.step.new.self c.step.new.course.waiting
    (kept_both c.args.base.now c.args.self.now c.steps.self c.step.new.self
    c.steps.invariant.kept c.step.ensures.kept)
