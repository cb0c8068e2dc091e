use Rattle.std.proofs.Common.{◌≡◌, [], ◌∷◌, ap, sym, subst}
use Rattle.esc_book.specs.Book.{IsLiveOccurrence}
use Rattle.esc_clause.specs.ClauseContext.{ClauseContext}
use Rattle.esc_clause.specs.declared.decision.Decision.{Decision}
use Rattle.esc_live.specs.Promises.{IsGiven}
use Rattle.esc_live.specs.StandingInside.{Asserts, IsStanding}
use Rattle.esc_live.specs.declared.branch.LiveBranch.{LiveBranch}
use Rattle.esc_live.proofs.Deciding.{decide_decided, decide_ends, decide_goes_on, given_with}
use Rattle.esc_live.proofs.Deciding.{goes_nowhere, live_with, on_ok, standing_with, with_decision}
use Rattle.esc_live.proofs.LiveNotes.{clauses_notes, live_both}
use Rattle.esc_live.proofs.branch.LiveBranch.decide.Goals as goal

abbrev deciding : LiveBranch → ClauseContext → LiveBranch
deciding v cs = record v { clauses = cs }

pub assert_occurrence-requires-clause-standing : goal.assert_occurrence-requires-clause-standing
assert_occurrence-requires-clause-standing c =
    subst IsStanding (sym (ap (deciding c.args.self.now) c.in-Ok.ensures.ok))
    (standing_with c.args.self.now c.requires.branch c.requires.given
    (record { at = c.args.at; holds = c.args.holds }) c.requires.live c.requires.undecided)

pub assert_occurrence-requires-clause-given : goal.assert_occurrence-requires-clause-given
assert_occurrence-requires-clause-given c =
    subst IsGiven (sym (ap (deciding c.args.self.now) c.in-Ok.ensures.ok))
    (given_with c.args.self.now c.requires.branch c.requires.given
    (record { at = c.args.at; holds = c.args.holds }) c.requires.live c.requires.undecided)

pub assert_occurrence-requires-clause-live : goal.assert_occurrence-requires-clause-live
assert_occurrence-requires-clause-live c =
    subst (IsLiveOccurrence c.args.self.now.book) (sym c.decided.ensures)
    (live_with c.args.self.now c.requires.branch c.requires.given
    (record { at = c.args.at; holds = c.args.holds }) c.requires.live c.requires.undecided)

pub returns-clause-ends : goal.returns-clause-ends
returns-clause-ends c =
    decide_ends c.args.self.now c.requires.branch c.requires.given
    (record { at = c.args.at; holds = c.args.holds }) c.requires.live c.requires.undecided
    (deciding c.args.self.now c.decide.new.self) c.assert_occurrence.new.self
    (ap (deciding c.args.self.now) c.in-Ok.ensures.ok) c.assert_occurrence.ensures.steps
    c.assert_occurrence.result
    (subst (λ o. Asserts (deciding c.args.self.now c.decide.new.self) c.assert_occurrence.new.self
    (o ∷ []) c.assert_occurrence.result) c.decided.ensures c.assert_occurrence.ensures.ends)

pub returns-clause-decided : goal.returns-clause-decided
returns-clause-decided c =
    on_ok c.assert_occurrence.result
    (decide_decided c.args.self.now c.requires.branch c.requires.given
    (record { at = c.args.at; holds = c.args.holds }) c.requires.live c.requires.undecided
    (deciding c.args.self.now c.decide.new.self) c.assert_occurrence.new.self
    (ap (deciding c.args.self.now) c.in-Ok.ensures.ok) c.assert_occurrence.ensures.steps
    c.assert_occurrence.result)

pub returns-clause-goes_on : goal.returns-clause-goes_on
returns-clause-goes_on c =
    decide_goes_on c.args.self.now c.requires.branch c.requires.given
    (record { at = c.args.at; holds = c.args.holds }) c.requires.live c.requires.undecided
    (deciding c.args.self.now c.decide.new.self) c.assert_occurrence.new.self
    (ap (deciding c.args.self.now) c.in-Ok.ensures.ok) c.assert_occurrence.ensures.steps
    c.assert_occurrence.result

pub returns-clause-given : goal.returns-clause-given
returns-clause-given c = c.assert_occurrence.ensures.steps.given

pub returns-clause-undo : goal.returns-clause-undo
returns-clause-undo c =
    live_both _ _ _ _ _ _
    (clauses_notes c.args.self.now _ _ c.decide.new.self c.decide.ensures.undo)
    c.assert_occurrence.ensures.undo

pub returns-in_default-clause-goes_on : goal.returns-in_default-clause-goes_on
returns-in_default-clause-goes_on c =
    goes_nowhere c.args.self.now _ (ap (deciding c.args.self.now) c.in_default.ensures.err)

pub returns-in_default-clause-given : goal.returns-in_default-clause-given
returns-in_default-clause-given c =
    subst IsGiven (sym (ap (deciding c.args.self.now) c.in_default.ensures.err)) c.requires.given

pub returns-in_default-clause-undo : goal.returns-in_default-clause-undo
returns-in_default-clause-undo c =
    clauses_notes c.args.self.now _ _ c.decide.new.self c.decide.ensures.undo
