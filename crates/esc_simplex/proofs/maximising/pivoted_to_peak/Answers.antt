use Rattle.std.proofs.Common.{refl}
use Rattle.esc_simplex.proofs.Keeping.{keeps_itself}
use Rattle.esc_simplex.proofs.maximising.pivoted_to_peak.Goals as goal

pub returns-in_default-clause-keeps : goal.returns-in_default-clause-keeps
returns-in_default-clause-keeps c = keeps_itself c.args.tableau.now c.args.tableau.now refl
    c.requires.table c.requires.within
