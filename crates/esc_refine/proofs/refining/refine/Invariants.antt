use Rattle.esc_refine.specs.RoundsInside.{Round}
use Rattle.esc_refine.proofs.Rounds.{decisions_left}
use Rattle.esc_refine.proofs.refining.refine.Given as goal

abbrev pub invariant-rounds : goal.invariant-rounds
invariant-rounds l = Round l.fn.trail.records l.fn.branch l.trail.records l.branch

abbrev pub decreases-rounds : goal.decreases-rounds
decreases-rounds l = decisions_left l.branch
