-- What holds of a goal with the report that answers it holds of each goal of a run.
use Rattle.std.proofs.Common.{◌≡◌, ℕ, inl, inr, List, [], ◌∷◌, Ok, sym, ap, subst, ◌∙◌}
use Rattle.std.specs.Prelude.{IsTrue, None}
use Rattle.std.specs.List.{AllZip, list_all}
use Rattle.esc_options.specs.declared.options.Limits.{Limits}
use Rattle.esc_sexp.specs.declared.sexp.Sexp.{Sexp}
use Rattle.esc_term.specs.declared.formula.Formula.{Formula}
use Rattle.esc_read.specs.Reading.{Numbering, Numbers}
use Rattle.esc_read.specs.Tokens.{place_of}
use Rattle.esc_form.specs.declared.command.Command.{Command}
use Rattle.esc_form.specs.declared.command.Kind.TheVariants as kind
use Rattle.esc_form.specs.Laws.{ReadingsStay, TablesAreNumbered}
use Rattle.esc_report.specs.Goals.{IsFreeGoal}
use Rattle.esc_report.specs.PlainFormulas.{is_plain_formula}
use Rattle.esc_report.specs.declared.report.Refusal.TheVariants.{Form, NothingToPop, Redefined}
use Rattle.esc_report.specs.declared.report.Report.{Report}
use Rattle.esc_report.specs.declared.report.Report.TheVariants as report
use Rattle.esc_answers.specs.Answers.{Answers}
use Rattle.esc_answers.specs.Laws.{AnswersAreSharp, AnswersAreSound, IsSharpOf, IsSoundOf}
use Rattle.esc_answers.specs.State.{State}
use Rattle.esc_top.specs.Answers.{AnswersCommand, AnswersExpression}
use Rattle.esc_top.specs.Laws.{IsGoal, RunsAreSharp, RunsAreSound}
use Rattle.esc_top.specs.Told.{AnswersAll, Told}

-- ---- each goal

module _ (limits : Limits) (Q : List Formula → Formula → Report → Type 0)
    (law : (s t : State) (command : Command) (r : Report) (goal : Formula)
    → Answers s command limits r t → command.kind ≡ kind.Goal goal → Q s.assumed goal r)
    (lacks : (assumed : List Formula) (goal : Formula) (place : ℕ)
    → Q assumed goal (report.Memory None place)) where
  -- what holds of the expression and its report
  abbrev Holds : Sexp → Told → Type 0
  Holds e told = (goal : Formula) → IsGoal e told goal → Q told.before.assumed goal told.report

  module _ (names : List (List ℕ)) (number : Numbering) (numbers : Numbers names number)
      (s t : State) (e : Sexp) where
    -- the report, with what stood then
    abbrev told_by : Report → Told
    told_by r = record { names = names; before = s; report = r }

    holds_command : (r : Report) → AnswersCommand limits names s e r t → Holds e (told_by r)
    holds_command r (inl read) goal is_goal =
        let same : Ok read.0 ≡ Ok (record { place = is_goal.0; kind = kind.Goal goal }) =
        sym (read.1 number numbers) ∙ is_goal.1 number numbers in
        let command : read.0 ≡ record { place = is_goal.0; kind = kind.Goal goal } = cc in
        law s t read.0 r goal read.2 (ap (λ (c : Command). c.kind) command)
    holds_command r (inr lack) goal is_goal =
        subst (Q s.assumed goal) (sym lack.0) (lacks s.assumed goal (place_of e))

    holds_at : (r : Report) → AnswersExpression limits names s e r t → Holds e (told_by r)
    holds_at (report.Refused at (Form what)) h goal is_goal =
        absurd (let clash = sym (h.0 number numbers) ∙ is_goal.1 number numbers in cc)
    holds_at (report.Refused at NothingToPop) h goal is_goal =
        holds_command (report.Refused at NothingToPop) h goal is_goal
    holds_at (report.Refused at Redefined) h goal is_goal =
        holds_command (report.Refused at Redefined) h goal is_goal
    holds_at (report.Valid n log formulas) h goal is_goal =
        holds_command (report.Valid n log formulas) h goal is_goal
    holds_at (report.Invalid n found) h goal is_goal =
        holds_command (report.Invalid n found) h goal is_goal
    holds_at (report.Unknown n cause) h goal is_goal =
        holds_command (report.Unknown n cause) h goal is_goal
    holds_at (report.Memory n at) h goal is_goal =
        holds_command (report.Memory n at) h goal is_goal
    holds_at report.Done h goal is_goal = holds_command report.Done h goal is_goal

    -- so it is where the state is told as it stood
    holds_told : (before : State) → before ≡ s → (r : Report)
        → AnswersExpression limits names s e r t
        → Holds e (record { names = names; before = before; report = r })
    holds_told before before_is r h =
        subst (λ (u : State). Holds e (record { names = names; before = u; report = r }))
        (sym before_is) (holds_at r h)

  module _ (stay : ReadingsStay) (number : Numbering) where
    holds_all : (names : List (List ℕ)) (s : State) (es : List Sexp) (told : List Told)
        (names_now : List (List ℕ)) (s_now : State)
        → AnswersAll limits names s es told names_now s_now → Numbers names_now number
        → AllZip Holds es told × Numbers names number
    holds_all names s [] [] names_now s_now h numbers =
        (tt, subst (λ (table : List (List ℕ)). Numbers table number) h.0 numbers)
    holds_all names s (e ∷ es) (told ∷ more) names_now s_now h numbers =
        let later = holds_all told.names h.0 es more names_now s_now h.4 numbers in (
          (holds_told told.names number later.1 s h.0 e told.before h.2 told.report h.3, later.0),
          stay names told.names number h.1 later.1,
        )
    holds_all names s [] (told ∷ more) names_now s_now h numbers = absurd h
    holds_all names s (e ∷ es) [] names_now s_now h numbers = absurd h

pub runs_are_sound : AnswersAreSound → ReadingsStay → TablesAreNumbered → RunsAreSound
runs_are_sound law stay tables words left rest written now before after result ran =
    let p = ran.progress in
    let numbering = tables p.names p.distinct in
    let limits = ran.options.limits in
    (holds_all limits
    (λ assumed goal r. IsTrue (list_all is_plain_formula assumed)
    → IsTrue (is_plain_formula goal) → IsSoundOf assumed goal r)
    (λ s t command r goal answers is. law s t command limits r goal answers is)
    (λ assumed goal place plain is_plain. tt)
    stay numbering.0 _ _ p.expressions p.told p.names p.state p.answers numbering.1).0

pub runs_are_sharp : AnswersAreSharp → ReadingsStay → TablesAreNumbered → RunsAreSharp
runs_are_sharp law stay tables words left rest written now before after result ran =
    let p = ran.progress in
    let numbering = tables p.names p.distinct in
    let limits = ran.options.limits in
    (holds_all limits
    (λ assumed goal r. IsFreeGoal assumed goal → IsSharpOf assumed goal limits r)
    (λ s t command r goal answers is. law s t command limits r goal answers is)
    (λ assumed goal place is_free. tt)
    stay numbering.0 _ _ p.expressions p.told p.names p.state p.answers numbering.1).0
