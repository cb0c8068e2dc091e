-- What is told of a goal, and what it leaves.
use Rattle.std.specs.Prelude.{◌≡◌, ◌⊎◌, ℕ, Bool, false, Result, Ok, Err}
use Rattle.esc_answers.specs.Answers.{AnswersGoal}
use Rattle.esc_fact.specs.declared.base.Base.{Base}
use Rattle.esc_options.specs.declared.options.Limits.{Limits}
use Rattle.esc_report.specs.declared.report.Report.{Report}
use Rattle.esc_report.specs.declared.report.Report.TheVariants as report
use Rattle.esc_search.specs.Proving.{tallied}
use Rattle.esc_search.specs.declared.outcome.Outcome.{Outcome}
use Rattle.esc_search.specs.declared.outcome.Outcome.TheVariants as outcome
use Rattle.esc_search.specs.declared.tally.Tally.{Tally}
use Rattle.esc_session.specs.Counted.{Tallies}

-- the report answers a goal with this number, from whose base the search began
abbrev pub AnswersBase : Limits → Base → ℕ → Report → Type 0
AnswersBase limits base number r = (place : ℕ) → AnswersGoal limits base number place r

-- so the search came out of which the report tells
abbrev pub IsToldOf : Outcome → Report → Type 0
IsToldOf came (report.Valid goal log formulas) = came ≡ outcome.Closed
IsToldOf came (report.Invalid goal found) = came ≡ outcome.Open
IsToldOf came (report.Unknown goal cause) = came ≡ outcome.Stopped cause
IsToldOf came (report.Memory goal place) = ⊥
IsToldOf came (report.Refused place why) = ⊥
IsToldOf came report.Done = ⊥

-- memory was wanting for a goal: before the search, or behind it
abbrev pub MayTally : Bool → Tally → Tally → Type 0
MayTally closed before after =
    (after ≡ before) ⊎ ((came : Outcome) × (closed ≡ false) × (after ≡ tallied before came))

abbrev pub GoalTallies : {E : Type 0} → Bool → Result Report E → Tally → Tally → Type 0
GoalTallies closed (Ok r) before after = Tallies closed r before after
GoalTallies closed (Err e) before after = MayTally closed before after

abbrev pub SearchTallies : {E : Type 0} → Result Report E → Tally → Tally → Type 0
SearchTallies = GoalTallies false
