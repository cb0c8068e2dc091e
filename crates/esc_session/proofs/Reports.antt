-- The reports that a search leads to.
use Rattle.std.proofs.Common.{◌≡◌, ℕ, suc, List, [], ◌∷◌, Some, length, refl, sym, ap, subst}
use Rattle.std.proofs.Common.{subst₂, ◌∙◌}
use Rattle.std.specs.List.{All, AllZip, Contains, cons_option}
use Rattle.std.proofs.lemmas.List.Elements.{All-contains_itself}
use Rattle.esc_term.specs.declared.formula.Formula.{Formula}
use Rattle.esc_term.specs.declared.formula.Item.{Item}
use Rattle.esc_term.specs.Laws.{RefutedAmongMore}
use Rattle.esc_term.specs.Refuted.{Refuted}
use Rattle.esc_fact.specs.Base.{formulas_in}
use Rattle.esc_fact.specs.Fact.{formula_of, formulas_of}
use Rattle.esc_fact.specs.Legal.{first_facts}
use Rattle.esc_fact.specs.declared.base.Base.{Base}
use Rattle.esc_fact.specs.declared.fact.Fact.{Fact}
use Rattle.esc_context.specs.Left.{IsLeft, Tells}
use Rattle.esc_live.specs.View.{literals_on, logged}
use Rattle.esc_live.specs.declared.branch.LiveBranch.{LiveBranch}
use Rattle.esc_options.specs.declared.options.Limits.{Limits}
use Rattle.esc_fact.specs.Depth.{IsWithinLimits}
use Rattle.esc_outcome.specs.Found.{IsValid}
use Rattle.esc_outcome.specs.FoundLaws.{RefutedIsValid}
use Rattle.esc_outcome.specs.GrownLaws.{FirstIsLegal}
use Rattle.esc_outcome.proofs.PlainBases.{formulas_first}
use Rattle.esc_sharing.proofs.Lists.{All-append_left}
use Rattle.esc_outcome.specs.declared.counterexample.Counterexample.{Counterexample}
use Rattle.esc_report.specs.declared.report.Report.TheVariants as report
use Rattle.esc_search.specs.Proving.{IsLeftOpen, IsRefutedLog, IsStopped, live_facts}
use Rattle.esc_search.specs.declared.search.Search.{Search}
use Rattle.esc_verdict.specs.Found.{IsInvalid}
use Rattle.esc_verdict.specs.Rounds.{AreRounds, IsSaturated}
use Rattle.esc_verdict.specs.declared.cause.Cause.{Cause}
use Rattle.esc_session.specs.ReportingInside.{AnswersBase}

-- ---- valid goals

length-zipped : {X Y : Type 0} (R : X → Y → Type 0) (xs : List X) (ys : List Y)
    → AllZip R xs ys → length ys ≡ length xs
length-zipped R [] [] h = refl
length-zipped R [] (y ∷ ys) h = absurd h
length-zipped R (x ∷ xs) [] h = absurd h
length-zipped R (x ∷ xs) (y ∷ ys) h = ap suc (length-zipped R xs ys h.1)

module _ (base : Base) (s : Search) (log : List Fact) (formulas : List Formula) where
  pub log_valid : RefutedIsValid → IsRefutedLog base s
      → logged s.branch ≡ formulas_of base s.log → log ≡ s.log → formulas ≡ logged s.branch
      → IsValid base log formulas
  log_valid law h same log_is formulas_are =
      subst₂ (λ facts fs. IsValid base facts fs) (sym log_is) (sym (formulas_are ∙ same))
      (law base s.log h.legal h.refuted)

pub each_formula_of : (base : Base) (log : List Fact) (formulas : List Formula)
    → IsValid base log formulas → length formulas ≡ length log
each_formula_of base log formulas valid = length-zipped (λ fact f. formula_of base fact ≡ Some f)
    log formulas valid.formulas_are

pub valid_answers : (limits : Limits) (base : Base) (number : ℕ) (log : List Fact)
    (formulas : List Formula) → IsValid base log formulas
    → AnswersBase limits base number (report.Valid number log formulas)
valid_answers limits base number log formulas valid place =
    (refl, valid)

-- ---- goals that are not

module _ (base : Base) (s : Search) (v : LiveBranch) (here : v ≡ s.branch) (live : List Fact)
    (literals : List Item) (live_is : live ≡ live_facts s)
    (literals_are : literals ≡ literals_on v) where
  same_literals : literals ≡ literals_on s.branch
  same_literals = literals_are ∙ ap literals_on here

  pub left_here : IsLeftOpen base s → IsLeft base v.sharing live literals
  left_here h = subst (λ (w : LiveBranch). IsLeft base w.sharing live literals) (sym here)
      (subst₂ (λ facts items. IsLeft base s.branch.sharing facts items) (sym live_is)
      (sym same_literals) h.left)

  found_invalid : (found : Counterexample) → IsLeftOpen base s
      → Tells base v.sharing live literals found → IsInvalid base s.limits found
  found_invalid found h tells =
      let facts_are : found.facts ≡ live_facts s = tells.facts ∙ live_is in
      let items_are : found.literals ≡ literals_on s.branch = tells.literals_are ∙ same_literals in
      record {
        within = subst (IsWithinLimits base s.limits.depth s.limits.facts) (sym facts_are)
            h.within;
        counterexample = tells.counterexample;
        saturated = subst₂ (IsSaturated base s.limits.depth) (sym facts_are) (sym items_are)
            h.saturated;
        starts = h.starts;
        rounds = subst₂ (λ facts items. AreRounds base s.limits.depth facts items h.starts)
            (sym facts_are) (sym items_are) h.rounds;
        labels = tells.labels;
      }

  pub invalid_answers : (number : ℕ) (found : Counterexample) → IsLeftOpen base s
      → Tells base v.sharing live literals found
      → AnswersBase s.limits base number (report.Invalid number found)
  invalid_answers number found h tells place = (refl, found_invalid found h tells)

-- ---- goals whose search stopped

pub unknown_answers : (base : Base) (s : Search) (number : ℕ) (cause : Cause)
    → IsStopped base s cause → AnswersBase s.limits base number (report.Unknown number cause)
unknown_answers base s number cause h place = (refl, h.cause_is)

-- ---- goals where what is assumed is refuted

module _ (base : Base) (law : RefutedAmongMore) (legal : FirstIsLegal) (valid : RefutedIsValid)
  where
    in_base : All (Contains (formulas_in base)) base.background
    in_base = All-append_left (Contains (formulas_in base)) base.background
        (cons_option base.negated [])
        (All-contains_itself (formulas_in base))

    first_refuted : Refuted base.background → Refuted (formulas_of base (first_facts base))
    first_refuted refuted = subst Refuted (sym (formulas_first base))
        (law base.background (formulas_in base) in_base refuted)

    pub assumed_valid : (log : List Fact) (formulas : List Formula) → log ≡ first_facts base
        → formulas ≡ formulas_in base → Refuted base.background → IsValid base log formulas
    assumed_valid log formulas log_is formulas_are refuted =
        subst₂ (λ facts fs. IsValid base facts fs) (sym log_is)
        (formulas_first base ∙ sym formulas_are)
        (valid base (first_facts base) (legal base) (first_refuted refuted))
