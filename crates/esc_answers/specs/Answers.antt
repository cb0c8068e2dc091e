-- Which report may answer a command, and the state then.
use Rattle.std.specs.Prelude.{◌≡◌, ◌⊎◌, ℕ, ◌+◌, List, [], ◌∷◌, Option, Some, None}
use Rattle.esc_term.specs.declared.formula.Formula.{Formula}
use Rattle.esc_term.specs.declared.term.Sym.{Sym}
use Rattle.esc_fact.specs.declared.base.Base.{Base}
use Rattle.esc_form.specs.declared.command.Command.{Command}
use Rattle.esc_form.specs.declared.command.Kind.{Kind}
use Rattle.esc_form.specs.declared.command.Kind.TheVariants as kind
use Rattle.esc_outcome.specs.Found.{IsValid}
use Rattle.esc_options.specs.declared.options.Limits.{Limits}
use Rattle.esc_report.specs.Goals.{base_of}
use Rattle.esc_report.specs.declared.report.Refusal.TheVariants.{NothingToPop, Redefined}
use Rattle.esc_report.specs.declared.report.Report.{Report}
use Rattle.esc_report.specs.declared.report.Report.TheVariants as report
use Rattle.esc_verdict.specs.Causes.{IsCause}
use Rattle.esc_verdict.specs.Found.{IsInvalid}
use Rattle.esc_answers.specs.State.{AreRules, IsDefined, IsPopped, State, with_batch, with_goal}

-- ---- goals

-- the report answers the goal with this number, from whose base a search begins, and whose
-- expression begins at the place
abbrev pub AnswersGoal : Limits → Base → ℕ → ℕ → Report → Type 0
AnswersGoal limits base number place (report.Valid goal log formulas) =
    (goal ≡ number) × IsValid base log formulas
AnswersGoal limits base number place (report.Invalid goal found) =
    (goal ≡ number) × IsInvalid base limits found
AnswersGoal limits base number place (report.Unknown goal cause) =
    (goal ≡ number) × IsCause base limits cause
AnswersGoal limits base number place (report.Memory (Some goal) at) =
    (goal ≡ number) × (at ≡ place)
AnswersGoal limits base number place (report.Memory None at) = ⊥
AnswersGoal limits base number place (report.Refused at why) = ⊥
AnswersGoal limits base number place report.Done = ⊥

-- ---- other commands

-- memory is wanting for a command that is no goal, and nothing changes
abbrev pub LacksMemory : State → ℕ → Report → State → Type 0
LacksMemory s place r t = (r ≡ report.Memory None place) × (t ≡ s)

-- the formulas are in force
abbrev pub Assumes : State → ℕ → Option (Sym × ℕ) → List Formula → Report → State → Type 0
Assumes s place predicate fs r t =
    ((r ≡ report.Done) × (t ≡ with_batch s predicate fs)) ⊎ LacksMemory s place r t

-- the newest push goes, where there is one
abbrev pub Pops : State → ℕ → Report → State → Type 0
Pops s place r t =
    ((r ≡ report.Done) × IsPopped s t)
    ⊎ ((r ≡ report.Refused place NothingToPop) × (t ≡ s) × AreRules s.batches)

-- the rule is in force, unless one for its predicate was already
abbrev pub Defines : State → ℕ → ℕ → Sym × ℕ → Formula → Report → State → Type 0
Defines s place name_place predicate rule r t =
    (Assumes s place (Some predicate) (rule ∷ []) r t × (IsDefined s predicate → ⊥))
    ⊎ ((r ≡ report.Refused name_place Redefined) × (t ≡ s) × IsDefined s predicate)

-- ---- commands

-- nothing is done
abbrev pub IsIdle : State → Report → State → Type 0
IsIdle s r t = (r ≡ report.Done) × (t ≡ s)

-- by the form of the command; a goal is counted
abbrev pub AnswersKind : Limits → State → ℕ → Kind → Report → State → Type 0
AnswersKind limits s place (kind.Goal f) r t =
    AnswersGoal limits (base_of s.assumed f) (s.goals + 1) place r × (t ≡ with_goal s)
AnswersKind limits s place (kind.Push fs) r t = Assumes s place None fs r t
AnswersKind limits s place kind.Pop r t = Pops s place r t
AnswersKind limits s place (kind.Define name count name_place (Some rule)) r t =
    Defines s place name_place (name, count) rule r t
AnswersKind limits s place (kind.Define name count name_place None) r t = IsIdle s r t
AnswersKind limits s place kind.Prompt r t = IsIdle s r t

-- with this state before, the report answers the command, and that state stands then
abbrev pub Answers : State → Command → Limits → Report → State → Type 0
Answers s command limits r t = AnswersKind limits s command.place command.kind r t
