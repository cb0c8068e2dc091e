use Rattle.std.proofs.Common.{sym, ◌∙◌}
use Rattle.esc_live.proofs.ClausesExpanded.{reaches_clauses, steps_added}
use Rattle.esc_live.proofs.Judged.{closed_by_no, reaches_yes}
use Rattle.esc_live.proofs.LiveNotes.{live_nothing}
use Rattle.esc_live.proofs.Reaching.{steps_nothing}
use Rattle.esc_live.proofs.branch.LiveBranch.assert_clauses.Goals as goal

-- ---- something is said

pub returns-in-Yes-clause-ends : goal.returns-in-Yes-clause-ends
returns-in-Yes-clause-ends c =
    reaches_yes c.args.self.now c.requires.standing c.args.at c.requires.live
    (sym c.truth_of.ensures ∙ c.in-Yes.is)

pub returns-in-Yes-clause-steps : goal.returns-in-Yes-clause-steps
returns-in-Yes-clause-steps c = steps_nothing c.args.self.now c.requires.given

pub returns-in-Yes-clause-undo : goal.returns-in-Yes-clause-undo
returns-in-Yes-clause-undo c = live_nothing c.args.trail.now.records c.args.self.now

pub returns-in-No-clause-ends : goal.returns-in-No-clause-ends
returns-in-No-clause-ends c =
    closed_by_no c.args.self.now c.requires.standing.shared c.args.at c.requires.live
    (sym c.truth_of.ensures ∙ c.in-No.is)

pub returns-in-No-clause-steps : goal.returns-in-No-clause-steps
returns-in-No-clause-steps c = steps_nothing c.args.self.now c.requires.given

pub returns-in-No-clause-undo : goal.returns-in-No-clause-undo
returns-in-No-clause-undo c = live_nothing c.args.trail.now.records c.args.self.now

-- ---- nothing is said

pub returns-clause-ends : goal.returns-clause-ends
returns-clause-ends c =
    reaches_clauses c.expansion_laws.ensures.sound c.args.self.now c.requires.standing c.args.at
    c.requires.live c.args.clauses.now c.requires.expands c.add_clauses.new.self
    c.in-Ok.ensures.ok

pub returns-clause-steps : goal.returns-clause-steps
returns-clause-steps c =
    steps_added c.args.self.now c.add_clauses.new.self c.requires.given c.add_clauses.ensures.adds
