use Rattle.std.proofs.Common.{sym, subst}
use Rattle.esc_frac.specs.Rational.{ℚ, zero_ℚ, ◌≤ℚ◌}
use Rattle.esc_simplex.specs.Steps.{LiftEnds}
use Rattle.esc_simplex.proofs.Keeping.{keeps_both}
use Rattle.esc_simplex.proofs.maximising.lift.Goals as goal

pub returns-clause-keeps : goal.returns-clause-keeps
returns-clause-keeps c =
    keeps_both c.args.tableau.now c.bring_up.new.tableau c.settle.new.self
    c.bring_up.ensures.keeps (record {
      table = c.settle.ensures.table;
      same = c.settle.ensures.same;
      within = c.settle.ensures.within;
    })

pub returns-clause-ends : goal.returns-clause-ends
returns-clause-ends c =
    subst (λ (q : ℚ). zero_ℚ ≤ℚ q) (sym (c.settle.ensures.values c.args.unknown))
    (subst (LiftEnds c.bring_up.new.tableau c.args.unknown) c.if-not-found.false
    c.in_ok-found.ensures.ends)
