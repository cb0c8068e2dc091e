use Rattle.std.proofs.Common.{arith}
use Rattle.std.proofs.lemmas.Grind.{common_steps}
use Rattle.esc_clause.proofs.ClauseNotes.{notes_dropped}
use Rattle.esc_clause.proofs.clauses.Clauses.drop_item.Goals as goal

pub returns-clause-undo : goal.returns-clause-undo
returns-clause-undo g c =
    notes_dropped g.R.Carries.carried _ _ c.args.self.now _ c.args.at c.args.place
    (grind (arith, common_steps)) (cc) c.requires.there c.requires.within c.requires.left
