use Rattle.esc_simplex.proofs.Copied.{copy_fits}
use Rattle.esc_simplex.proofs.simplex.Simplex.copy_rows.Goals as goal

pub returns-clause-fit : goal.returns-clause-fit
returns-clause-fit c = copy_fits c.args.self.now c.requires.simplex c.rows.result
    c.rows.ensures.rows c.rows.ensures.among
