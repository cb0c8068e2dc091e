use Rattle.std.proofs.Common.{arith}
use Rattle.std.proofs.lemmas.Grind.{common_steps}
use Rattle.esc_clause.proofs.ClauseNotes.{notes_decided}
use Rattle.esc_clause.proofs.clauses.Clauses.decide.Goals as goal

pub returns-clause-undo : goal.returns-clause-undo
returns-clause-undo g c =
    notes_decided g.R.Carries.carried _ _ c.args.self.now _
    (record { at = c.args.at; holds = c.args.holds }) (grind (arith, common_steps)) (cc)
