use Rattle.esc_egraph.specs.SidesInside.{IsCopying}
use Rattle.esc_egraph.proofs.pairs.copy_under.Given as goal

abbrev pub invariant-places : goal.invariant-places
invariant-places l = IsCopying l.fn.entries l.from l.into l.entries l.end

abbrev pub decreases-places : goal.decreases-places
decreases-places l = l.end
