use Rattle.esc_simplex.proofs.Gapped.{exceed_barred}
use Rattle.esc_simplex.proofs.Kept.{same_kept, simplex_kept}
use Rattle.esc_simplex.proofs.Parting.{exceed_shows}
use Rattle.esc_simplex.proofs.simplex.Simplex.exceeds.Goals as goal

pub returns-clause-simplex : goal.returns-clause-simplex
returns-clause-simplex c = simplex_kept c.args.self.now c.requires.simplex c.exceeds.new.tableau
    c.exceeds.ensures.keeps

pub returns-clause-ends : goal.returns-clause-ends
returns-clause-ends c = exceed_shows c.args.self.now c.requires.simplex c.args.upper c.args.lower
    c.requires.upper c.requires.lower c.exceeds.result c.exceeds.ensures.ends

pub returns-clause-stop : goal.returns-clause-stop
returns-clause-stop c = exceed_barred c.args.self.now c.requires.simplex c.args.upper c.args.lower
    c.requires.upper c.requires.lower c.exceeds.new.tableau c.exceeds.ensures.keeps c.exceeds.result
    c.exceeds.ensures.stops

pub returns-clause-same : goal.returns-clause-same
returns-clause-same c = same_kept c.args.self.now c.requires.simplex c.exceeds.new.tableau
    c.exceeds.ensures.keeps
