use Rattle.esc_simplex.proofs.KeyLaws.{moving_may}
use Rattle.esc_simplex.proofs.simplex.Simplex.moving.Goals as goal

pub returns : goal.returns
returns c = moving_may c.args.self.now.tableau c.moving.result c.moving.ensures
