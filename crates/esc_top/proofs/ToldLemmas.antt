-- One report more.
use Rattle.std.proofs.Common.{◌≡◌, ℕ, Bool, true, false, ◌&&◌, List, [], ◌∷◌, ◌++◌, refl, ap}
use Rattle.std.proofs.Common.{subst, ◌∙◌}
use Rattle.std.proofs.lemmas.List.{append-nil}
use Rattle.std.proofs.lemmas.List.Concat.{flat_map-append}
use Rattle.esc_options.specs.declared.options.Limits.{Limits}
use Rattle.esc_options.specs.declared.options.Show.{Show}
use Rattle.esc_sexp.specs.declared.sexp.Sexp.{Sexp}
use Rattle.esc_read.specs.Reading.{Extends}
use Rattle.esc_answers.specs.State.{State}
use Rattle.esc_report.specs.Text.{report_text}
use Rattle.esc_top.specs.Answers.{AnswersExpression}
use Rattle.esc_top.specs.Told.{Told, AnswersAll, all_proved, is_proved_report, texts}

module _ (limits : Limits) where
  pub AnswersAll-push : (names : List (List ℕ)) (s : State) (es : List Sexp) (tolds : List Told)
      (between : List (List ℕ)) (before : State) (e : Sexp) (told : Told) (now : State)
      → AnswersAll limits names s es tolds between before → Extends between told.names
      → told.before ≡ before → AnswersExpression limits told.names before e told.report now
      → AnswersAll limits names s (es ++ e ∷ []) (tolds ++ told ∷ []) told.names now
  AnswersAll-push names s [] [] between before e told now h grown here answers = (
    now,
    subst (λ (n : List (List ℕ)). Extends n told.names) h.0 grown,
    here ∙ h.1,
    subst (λ (k : State). AnswersExpression limits told.names k e told.report now) h.1 answers,
    (refl, refl),
  )
  AnswersAll-push names s (first ∷ es) (t ∷ tolds) between before e told now h grown here
      answers = (
        h.0,
        h.1,
        h.2,
        h.3,
        AnswersAll-push t.names h.0 es tolds between before e told now h.4 grown here answers,
      )
  AnswersAll-push names s [] (t ∷ tolds) between before e told now h grown here answers = absurd h
  AnswersAll-push names s (first ∷ es) [] between before e told now h grown here answers = absurd h

pub texts-push : (show : Show) (tolds : List Told) (told : Told)
    → texts show (tolds ++ told ∷ [])
    ≡ texts show tolds ++ report_text told.names show told.report
texts-push show tolds told =
    flat_map-append (λ (t : Told). report_text t.names show t.report) tolds (told ∷ [])
    ∙ ap (λ (l : List ℕ). texts show tolds ++ l)
    (append-nil (report_text told.names show told.report))

pub all_proved-push : (tolds : List Told) (told : Told) → all_proved (tolds ++ told ∷ [])
    ≡ (all_proved tolds && is_proved_report told.report)
all_proved-push [] told = one (is_proved_report told.report)
  where
    one : (b : Bool) → (b && true) ≡ (true && b)
    one true = refl
    one false = refl
all_proved-push (t ∷ tolds) told = ap (λ (b : Bool). is_proved_report t.report
    && b) (all_proved-push tolds told) ∙ regroup (is_proved_report t.report) (all_proved tolds)
    (is_proved_report told.report)
  where
    regroup : (a b c : Bool) → (a && (b && c)) ≡ ((a && b) && c)
    regroup true b c = refl
    regroup false b c = refl
