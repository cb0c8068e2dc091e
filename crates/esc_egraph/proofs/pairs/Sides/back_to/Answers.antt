use Rattle.esc_egraph.proofs.PairSteps.{sided_back}
use Rattle.esc_egraph.proofs.pairs.Sides.back_to.Goals as goal

pub returns-then-step-pairs : goal.returns-then-step-pairs
returns-then-step-pairs c = λ ms ps is.
    sided_back ms ps c.args.self.now _ c.args.merges c.args.pairs c.in-Some.step is
    c.in-Some.ensures.items c.if-step-merges.true c.if-step-pairs.true c.truncate.ensures
