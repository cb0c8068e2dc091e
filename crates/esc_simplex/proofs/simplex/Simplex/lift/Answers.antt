use Rattle.esc_simplex.proofs.Kept.{same_kept, simplex_kept}
use Rattle.esc_simplex.proofs.Lifted.{lift_barred, lift_shows}
use Rattle.esc_simplex.proofs.Points.{used_in_rows}
use Rattle.esc_simplex.proofs.simplex.Simplex.lift.Goals as goal

pub lift-requires-clause-unknown : goal.lift-requires-clause-unknown
lift-requires-clause-unknown c = used_in_rows c.args.self.now c.requires.simplex c.args.u
    c.requires.u

pub returns-clause-simplex : goal.returns-clause-simplex
returns-clause-simplex c = simplex_kept c.args.self.now c.requires.simplex c.lift.new.tableau
    c.lift.ensures.keeps

pub returns-clause-same : goal.returns-clause-same
returns-clause-same c = same_kept c.args.self.now c.requires.simplex c.lift.new.tableau
    c.lift.ensures.keeps

pub returns-clause-ends : goal.returns-clause-ends
returns-clause-ends c = lift_shows c.args.self.now c.requires.simplex c.args.u c.requires.u
    c.lift.new.tableau c.lift.ensures.keeps c.lift.result c.lift.ensures.ends

pub returns-clause-stop : goal.returns-clause-stop
returns-clause-stop c = lift_barred c.args.self.now c.requires.simplex c.args.u c.requires.u
    c.lift.new.tableau c.lift.ensures.keeps c.lift.result c.lift.ensures.stops
