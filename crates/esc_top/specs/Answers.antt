-- What a report may answer to an expression.
use Rattle.std.specs.Prelude.{◌≡◌, ◌⊎◌, ℕ, List, Ok, Err}
use Rattle.esc_sexp.specs.declared.sexp.Sexp.{Sexp}
use Rattle.esc_read.specs.Reading.{Numbering, Numbers, Outcome}
use Rattle.esc_read.specs.Tokens.{place_of}
use Rattle.esc_form.specs.declared.command.Command.{Command}
use Rattle.esc_form.specs.Commands.{command}
use Rattle.esc_answers.specs.Answers.{Answers, LacksMemory}
use Rattle.esc_answers.specs.State.{State}
use Rattle.esc_options.specs.declared.options.Limits.{Limits}
use Rattle.esc_report.specs.declared.report.Report.{Report}
use Rattle.esc_report.specs.declared.report.Report.TheVariants as report
use Rattle.esc_report.specs.declared.report.Refusal.TheVariants.{Form}

-- by each numbering that gives the names of the table their places, the expression reads so
abbrev pub ReadsAs : List (List ℕ) → Sexp → Outcome Command → Type 0
ReadsAs names e outcome = (number : Numbering) → Numbers names number → command e number ≡ outcome

-- it reads as a command that the report answers, or memory is wanting to read it
abbrev pub AnswersCommand : Limits → List (List ℕ) → State → Sexp → Report → State → Type 0
AnswersCommand limits names s e r t =
    ((c : Command) × ReadsAs names e (Ok c) × Answers s c limits r t) ⊎ LacksMemory s
    (place_of e) r t

-- with this state before, the report answers the expression, and that state stands then
abbrev pub AnswersExpression : Limits → List (List ℕ) → State → Sexp → Report → State → Type 0
AnswersExpression limits names s e (report.Refused place (Form kind)) t =
    ReadsAs names e (Err (record { kind = kind; place = place })) × (t ≡ s)
AnswersExpression limits names s e r t = AnswersCommand limits names s e r t
