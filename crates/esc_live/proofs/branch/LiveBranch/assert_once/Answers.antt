use Rattle.std.proofs.Common.{sym, ◌∙◌}
use Rattle.esc_live.proofs.Judged.{closed_by_no, reaches_yes}
use Rattle.esc_live.proofs.LiveNotes.{live_nothing}
use Rattle.esc_live.proofs.Reaching.{steps_nothing}
use Rattle.esc_live.proofs.branch.LiveBranch.assert_once.Goals as goal

-- ---- something is said

pub returns-in-Yes-clause-ends : goal.returns-in-Yes-clause-ends
returns-in-Yes-clause-ends c =
    reaches_yes c.args.self.now c.requires.standing c.args.at c.requires.live
    (sym c.truth_of.ensures ∙ c.in-Yes.is)

pub returns-in-Yes-clause-steps : goal.returns-in-Yes-clause-steps
returns-in-Yes-clause-steps c = steps_nothing c.args.self.now c.requires.given

pub returns-in-Yes-clause-undo : goal.returns-in-Yes-clause-undo
returns-in-Yes-clause-undo c = live_nothing c.args.trail.now.records c.args.self.now

pub returns-in-No-clause-ends : goal.returns-in-No-clause-ends
returns-in-No-clause-ends c =
    closed_by_no c.args.self.now c.requires.standing.shared c.args.at c.requires.live
    (sym c.truth_of.ensures ∙ c.in-No.is)

pub returns-in-No-clause-steps : goal.returns-in-No-clause-steps
returns-in-No-clause-steps c = steps_nothing c.args.self.now c.requires.given

pub returns-in-No-clause-undo : goal.returns-in-No-clause-undo
returns-in-No-clause-undo c = live_nothing c.args.trail.now.records c.args.self.now

-- ---- nothing is said

pub assert_literal-requires-clause-open : goal.assert_literal-requires-clause-open
assert_literal-requires-clause-open c = sym c.truth_of.ensures ∙ c.in-Open.is
