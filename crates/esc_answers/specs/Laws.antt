-- What holds of answers.
use Rattle.std.specs.Prelude.{◌≡◌, ◌<◌, ◌^◌, IsTrue, List}
use Rattle.std.specs.List.{list_all}
use Rattle.esc_term.specs.declared.formula.Formula.{Formula}
use Rattle.esc_term.specs.Refuted.{Refuted}
use Rattle.esc_fact.specs.Base.{formulas_in}
use Rattle.esc_form.specs.declared.command.Command.{Command}
use Rattle.esc_form.specs.declared.command.Kind.TheVariants.{Goal}
use Rattle.esc_outcome.specs.TreeLaws.{occurrences_in}
use Rattle.esc_options.specs.declared.options.Limits.{Limits}
use Rattle.esc_report.specs.Goals.{IsFreeGoal, base_of}
use Rattle.esc_report.specs.PlainFormulas.{is_plain_formula}
use Rattle.esc_report.specs.declared.report.Report.{Report}
use Rattle.esc_report.specs.declared.report.Report.TheVariants as report
use Rattle.esc_verdict.specs.declared.cause.Cause.{Cause}
use Rattle.esc_verdict.specs.declared.cause.Cause.TheVariants as cause
use Rattle.esc_answers.specs.Answers.{Answers}
use Rattle.esc_answers.specs.State.{State}

-- the negated goal is refuted with what is assumed
abbrev pub IsRefutedGoal : List Formula → Formula → Type 0
IsRefutedGoal assumed goal = Refuted (formulas_in (base_of assumed goal))

-- ---- plain goals

-- where it is said to be valid, its negation is refuted with what is assumed
abbrev pub IsSoundOf : List Formula → Formula → Report → Type 0
IsSoundOf assumed goal (report.Valid number log formulas) = IsRefutedGoal assumed goal
IsSoundOf assumed goal r = Unit {0}

-- so it is where nothing is drawn from either
abbrev pub AnswersAreSound : Type 0
AnswersAreSound =
    (s t : State) (command : Command) (limits : Limits) (r : Report) (goal : Formula)
    → Answers s command limits r t → command.kind ≡ Goal goal
    → IsTrue (list_all is_plain_formula s.assumed) → IsTrue (is_plain_formula goal)
    → IsSoundOf s.assumed goal r

-- ---- goals without arithmetic

-- the splits ran out, and fewer are allowed than a tree over the occurrences of the goal and of
-- what is assumed can have
abbrev pub IsShortOfSplits : List Formula → Formula → Limits → Cause → Type 0
IsShortOfSplits assumed goal limits (cause.Splits branch next) =
    limits.splits < 2 ^ occurrences_in (formulas_in (base_of assumed goal))
IsShortOfSplits assumed goal limits (cause.Overflow branch stuck) = ⊥
IsShortOfSplits assumed goal limits (cause.Pivots branch stuck) = ⊥
IsShortOfSplits assumed goal limits (cause.Rounds branch made) = ⊥
IsShortOfSplits assumed goal limits (cause.Facts branch next) = ⊥

-- it is said to be valid where its negation is refuted with what is assumed, and to be invalid
-- where it is not, unless memory or splits are wanting
abbrev pub IsSharpOf : List Formula → Formula → Limits → Report → Type 0
IsSharpOf assumed goal limits (report.Valid number log formulas) = IsRefutedGoal assumed goal
IsSharpOf assumed goal limits (report.Invalid number found) = IsRefutedGoal assumed goal → ⊥
IsSharpOf assumed goal limits (report.Unknown number why) =
    IsShortOfSplits assumed goal limits why
IsSharpOf assumed goal limits (report.Memory number place) = Unit {0}
IsSharpOf assumed goal limits (report.Refused place why) = ⊥
IsSharpOf assumed goal limits report.Done = ⊥

abbrev pub AnswersAreSharp : Type 0
AnswersAreSharp =
    (s t : State) (command : Command) (limits : Limits) (r : Report) (goal : Formula)
    → Answers s command limits r t → command.kind ≡ Goal goal → IsFreeGoal s.assumed goal
    → IsSharpOf s.assumed goal limits r
