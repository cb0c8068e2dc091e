use Rattle.esc_simplex.proofs.Keeping.{keeps_both}
use Rattle.esc_simplex.proofs.maximising.bring_up.Goals as goal

pub returns-in-Positive-Some-clause-keeps : goal.returns-in-Positive-Some-clause-keeps
returns-in-Positive-Some-clause-keeps c =
    keeps_both c.args.tableau.now c.maximised.new.tableau c.lift_along.new.tableau
    c.maximised.ensures.keeps c.lift_along.ensures.keeps

pub returns-in-Positive-Some-clause-stops : goal.returns-in-Positive-Some-clause-stops
returns-in-Positive-Some-clause-stops c = c.lift_along.ensures.stops c.args.tableau.now
