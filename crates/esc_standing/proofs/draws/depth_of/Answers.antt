use Rattle.std.proofs.Common.{◌∙◌, subst}
use Rattle.esc_standing.specs.DrawsInside.{IsBehind}
use Rattle.esc_standing.proofs.DrawDepths.{drawn_depth}
use Rattle.esc_standing.proofs.draws.depth_of.Goals as goal

pub returns-in-Some : goal.returns-in-Some
returns-in-Some c base g facts unset fact behind =
    c.depth_drawn.ensures
    ∙ drawn_depth base g facts unset c.args.depths.now c.args.formulas.now fact c.in-Some.draw
    (subst (IsBehind base g facts unset c.args.depths.now c.args.formulas.now fact) c.in-Some.is
    behind)
