use Rattle.std.proofs.Common.{subst}
use Rattle.esc_rounds.specs.Origins.{outermost}
use Rattle.esc_standing.specs.Keeping.{Keeps, marked, outer_atoms}
use Rattle.esc_standing.proofs.KeepingCalls.{keeps_brought}
use Rattle.esc_standing.proofs.origins.keep_brought.Goals as goal

pub returns : goal.returns
returns c b =
    keeps_brought c.args.depth c.args.number c.in_ok-first.first c.args.outer.now
    c.args.inside.now c.args.formula.now c.in-Implies.left c.in-Implies.right
    c.args.formulas.now c.walk.new.formulas c.walk-2.new.formulas b c.in-Implies.is
    c.in_ok-first.ensures
    (subst (λ f. Keeps c.args.depth (marked c.args.number c.args.outer.now (outermost f))
    (outer_atoms f) c.args.formulas.now c.walk.new.formulas) c.get.ensures
    c.in_ok-walk.ensures.kept)
    (subst (λ f. Keeps c.args.depth (marked c.in_ok-first.first c.args.inside.now (outermost f))
    (outer_atoms f) c.walk.new.formulas c.walk-2.new.formulas) c.get-2.ensures
    c.in_ok-walk-2.ensures.kept)
