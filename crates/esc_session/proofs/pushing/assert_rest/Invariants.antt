use Rattle.std.proofs.Common.{◌-◌, length}
use Rattle.esc_session.specs.PushingInside.{GoesOn}
use Rattle.esc_session.proofs.pushing.assert_rest.Given as goal

abbrev pub invariant-formulas : goal.invariant-formulas
invariant-formulas l = GoesOn l.base l.fn.search l.search

abbrev pub decreases-formulas : goal.decreases-formulas
decreases-formulas l = length l.base.background - length l.search.log
