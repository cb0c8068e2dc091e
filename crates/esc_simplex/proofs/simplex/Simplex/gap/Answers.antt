use Rattle.std.proofs.Common.{refl}
use Rattle.esc_trail.proofs.Noting.{notes_nothing}
use Rattle.esc_simplex.specs.Calls.{gap_in}
use Rattle.esc_simplex.specs.SimplexUndo.{simplex_undo}
use Rattle.esc_simplex.specs.SimplexLaws.{simplex_lawful}
use Rattle.esc_simplex.proofs.Gapping.{barred_gap_alone, gap_built, gap_looked_into, gap_row}
use Rattle.esc_simplex.proofs.Making.{makes_kept}
use Rattle.esc_simplex.proofs.simplex.Simplex.gap.Goals as goal

pub returns-in_default-clause-makes : goal.returns-in_default-clause-makes
returns-in_default-clause-makes g c = makes_kept c.args.self.now c.args.self.now _ refl refl refl
    refl

pub returns-in_default-clause-undo : goal.returns-in_default-clause-undo
returns-in_default-clause-undo g c = notes_nothing simplex_undo g.R.Carries.carried
    c.args.trail.now.records c.args.trail.now.records c.args.self.now c.args.self.now refl
    (simplex_lawful.reflexive c.args.self.now)

pub add-requires-clause-parts : goal.add-requires-clause-parts
add-requires-clause-parts g c = gap_row c.args.self.now c.requires.simplex c.args.u c.args.v
    c.requires.u c.requires.v c.args.strict c.in-Ok.parts c.constant_of.result c.in-Ok.ensures
    c.constant_of.ensures

pub add-requires-clause-built : goal.add-requires-clause-built
add-requires-clause-built g c = gap_built c.args.self.now c.requires.simplex c.args.u c.args.v
    c.requires.u c.requires.v c.args.strict

pub add-requires-clause-looked_into : goal.add-requires-clause-looked_into
add-requires-clause-looked_into g c = gap_looked_into
    (gap_in c.args.self.now c.args.u c.args.v c.args.strict)

pub returns-clause-stop : goal.returns-clause-stop
returns-clause-stop g c = barred_gap_alone c.add.new.self
    (gap_in c.args.self.now c.args.u c.args.v c.args.strict) c.add.result c.add.ensures.stop
