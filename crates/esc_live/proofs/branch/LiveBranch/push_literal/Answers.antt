use Rattle.std.proofs.Common.{rules, arith}
use Rattle.std.proofs.lemmas.Grind.{common_steps}
use Rattle.esc_live.proofs.LiveNotes.{literal_notes, notes_same}
use Rattle.esc_live.proofs.Parts.{parts_are}
use Rattle.esc_live.proofs.ClausesExpanded.{reaches_clauses}
use Rattle.esc_live.proofs.LiteralOn.{asserts_literal}
use Rattle.esc_live.proofs.SharedLiteral.{comes_quantified}
use Rattle.esc_live.proofs.FactLive.{fact_ends}
use Rattle.esc_live.proofs.Deciding.{decide_ends}
use Rattle.esc_live.proofs.BackAt.{back_is_branch}
use Rattle.esc_live.proofs.branch.LiveBranch.push_literal.Goals as goal

pub returns-in_err-reserve-clause-undo : goal.returns-in_err-reserve-clause-undo
returns-in_err-reserve-clause-undo c =
    notes_same _ _ _ _ (grind (arith, common_steps)) (search rules)

pub returns-in_err-push-clause-undo : goal.returns-in_err-push-clause-undo
returns-in_err-push-clause-undo c =
    notes_same _ _ _ _ (grind (arith, common_steps)) (search rules)

pub returns-clause-undo : goal.returns-clause-undo
returns-clause-undo c =
    literal_notes c.args.self.now _ _ _ c.args.at (search rules) (grind (arith, common_steps))
