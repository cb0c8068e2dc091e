use Rattle.esc_egraph.proofs.PairSteps.{sided_none}
use Rattle.esc_egraph.proofs.pairs.Sides.new.Goals as goal

pub returns : goal.returns
returns c = sided_none _ c.new.ensures c.new-2.ensures.items
