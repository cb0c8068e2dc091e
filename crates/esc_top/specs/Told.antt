-- The reports of a run, one after another, and their texts.
use Rattle.std.specs.Prelude.{◌≡◌, ℕ, Bool, true, false, List, [], ◌∷◌}
use Rattle.std.specs.List.{flat_map, list_all}
use Rattle.esc_sexp.specs.declared.sexp.Sexp.{Sexp}
use Rattle.esc_read.specs.Reading.{Extends}
use Rattle.esc_answers.specs.State.{State}
use Rattle.esc_options.specs.declared.options.Limits.{Limits}
use Rattle.esc_options.specs.declared.options.Show.{Show}
use Rattle.esc_report.specs.declared.report.Report.{Report}
use Rattle.esc_report.specs.declared.report.Report.TheVariants as report
use Rattle.esc_report.specs.Text.{report_text}
use Rattle.esc_top.specs.Answers.{AnswersExpression}

-- a report, with the spellings of the names by their numbers as they stood then, and the state in
-- which the expression was answered
pub record Told : Type 0 where
  pub names : List (List ℕ)
  pub before : State
  pub report : Report

-- The reports answer the expressions in order: from a table of names, which only grows, and a
-- state, to those in the end.
abbrev pub AnswersAll : Limits → List (List ℕ) → State → List Sexp → List Told → List (List ℕ)
    → State → Type 0
AnswersAll limits names s [] [] names_now s_now = (names_now ≡ names) × (s_now ≡ s)
AnswersAll limits names s (e ∷ es) (told ∷ more) names_now s_now =
    (between : State) × Extends names told.names × (told.before ≡ s)
    × AnswersExpression limits told.names s e told.report between
    × AnswersAll limits told.names between es more names_now s_now
AnswersAll limits names s [] (told ∷ more) names_now s_now = ⊥
AnswersAll limits names s (e ∷ es) [] names_now s_now = ⊥

-- what is written of the reports
abbrev pub texts : Show → List Told → List ℕ
texts show = flat_map (λ told. report_text told.names show told.report)

-- a goal was proved, or a command was carried out
abbrev pub is_proved_report : Report → Bool
is_proved_report (report.Valid goal log formulas) = true
is_proved_report report.Done = true
is_proved_report r = false

-- each goal was proved and nothing was refused
abbrev pub all_proved : List Told → Bool
all_proved = list_all (λ told. is_proved_report told.report)
