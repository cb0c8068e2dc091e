use Rattle.std.proofs.Common.{refl}
use Rattle.esc_simplex.specs.SimplexLaws.{simplex_lawful}
use Rattle.esc_simplex.proofs.Making.{makes_kept}
use Rattle.esc_simplex.proofs.simplex.Simplex.column_for.Goals as goal

pub returns-in-Some-clause-makes : goal.returns-in-Some-clause-makes
returns-in-Some-clause-makes c = makes_kept c.args.self.now c.args.self.now _ refl refl refl refl

pub returns-in-Some-clause-same : goal.returns-in-Some-clause-same
returns-in-Some-clause-same c = simplex_lawful.reflexive c.args.self.now
