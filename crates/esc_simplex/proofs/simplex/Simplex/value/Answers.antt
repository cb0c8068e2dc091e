use Rattle.esc_simplex.proofs.Points.{sample_allowed}
use Rattle.esc_simplex.proofs.simplex.Simplex.value.Goals as goal

pub returns-clause-point : goal.returns-clause-point
returns-clause-point c = sample_allowed c.args.self.now c.requires.simplex
