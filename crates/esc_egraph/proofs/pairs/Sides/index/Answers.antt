use Rattle.esc_egraph.proofs.PairSteps.{sided_entered, sided_lost}
use Rattle.esc_egraph.proofs.pairs.Sides.index.Goals as goal

pub returns : goal.returns
returns c =
    sided_entered c.args.classes.now.merges c.args.pairs.now _ c.in_ok-enter_sides.ensures
    c.clear.ensures.items

pub returns-in_err-enter_sides : goal.returns-in_err-enter_sides
returns-in_err-enter_sides c =
    sided_lost c.args.classes.now.merges c.args.pairs.now _ c.clear.ensures.items c.if-self.false
