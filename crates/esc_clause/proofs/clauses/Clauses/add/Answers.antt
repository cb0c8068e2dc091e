use Rattle.std.proofs.Common.{arith}
use Rattle.std.proofs.lemmas.Grind.{common_steps}
use Rattle.esc_clause.proofs.ClauseNotes.{notes_added}
use Rattle.esc_clause.specs.ClauseContext.{new_clause}
use Rattle.esc_clause.proofs.clauses.Clauses.add.Goals as goal

pub returns-clause-undo : goal.returns-clause-undo
returns-clause-undo g c =
    notes_added g.R.Carries.carried _ _ c.args.self.now _ (new_clause c.args.items.now)
    (grind (arith, common_steps)) (cc)
