-- Formulas without arithmetic have no jam.
use Rattle.std.proofs.Common.{◌≡◌, ℕ, ℤ, true, List, [], ◌∷◌, Option, Some, None, refl, sym, ap}
use Rattle.std.proofs.Common.{subst, subst₂, ◌∙◌}
use Rattle.std.specs.List.{All, AllZip, Contains, list_all}
use Rattle.std.proofs.lemmas.List.Elements.{All-nil, All-weaker}
use Rattle.esc_term.specs.declared.term.Term.{Term}
use Rattle.esc_term.specs.declared.term.Term.TheVariants.{Num}
use Rattle.esc_term.specs.declared.formula.Formula.{Formula}
use Rattle.esc_frac.specs.Rational.{ℚ, neg_ℚ, whole, ◌+ℚ◌}
use Rattle.esc_linear.specs.Forms.{form}
use Rattle.esc_linear.specs.Steps.{AllFit, StepFits as FormStepFits, steps}
use Rattle.esc_linear.specs.declared.form.Part.{Part as Addend}
use Rattle.esc_linear.proofs.FormLevels.{form-Num, steps-Num}
use Rattle.esc_tableau.specs.Changes.{PartsFit, start_sum}
use Rattle.esc_tableau.specs.Listed.{tabled}
use Rattle.esc_tableau.specs.Table.{Table, row_constant, row_of, sample}
use Rattle.esc_tableau.specs.declared.answers.Step.{Step}
use Rattle.esc_tableau.specs.declared.answers.Step.TheVariants.{Row, Ratio, Pivot}
use Rattle.esc_tableau.specs.declared.changing.Part.{Part}
use Rattle.esc_tableau.proofs.SampleLaws.{IsSolution-sample}
use Rattle.esc_cover.specs.Assignment.{Assignment}
use Rattle.esc_cover.specs.Classes.{active_terms}
use Rattle.esc_cover.specs.Counterexample.{fraction}
use Rattle.esc_cover.specs.Laws.{is_free_of_arithmetic}
use Rattle.esc_simplex.specs.Barred.{AreKeptRows, IsAddendOf, KeptStepJams, RowJams}
use Rattle.esc_simplex.specs.Senses.{Sense, StandsFor, gap_of, sense_fraction, term}
use Rattle.esc_simplex.specs.Steps.{gap_constant}
use Rattle.esc_simplex.specs.declared.stop.Stop.{Stop}
use Rattle.esc_simplex.specs.declared.stop.Stop.TheVariants as stop
use Rattle.esc_simplex.proofs.Rowed.{gap_fraction}
use Rattle.esc_outcome.specs.FreeLaws.{FreeHasNoJam, NumeralsAreSmall}
use Rattle.esc_outcome.specs.Jam.{IsNumberOf, IsSenseOf, JamsAs}
use Rattle.esc_outcome.specs.declared.stuck.Stuck.{Stuck}
use Rattle.esc_outcome.proofs.FittingRows.{gap_fits}
use Rattle.esc_outcome.proofs.NoColumns.{no_columns, no_maximising_jams, no_run_is_spent}
use Rattle.esc_outcome.proofs.Numerals.{IsFixed, fraction-Num, number_is_numeral}

module _ (fs : List Formula) (free : list_all is_free_of_arithmetic fs ≡ true)
    (numerals : NumeralsAreSmall fs) where
  -- ---- what unknowns stand for is fixed

  number_fixed : (t : Term) → IsNumberOf fs t → (q : ℚ) × ((x : Assignment) → fraction x t ≡ q)
  number_fixed t h =
      let is = number_is_numeral fs free t h in
      (whole is.0, λ x. ap (fraction x) is.1 ∙ fraction-Num x is.0)

  sense_fixed : (s : Sense) → IsSenseOf fs s → (q : ℚ) × IsFixed s q
  sense_fixed (term t) h = number_fixed t h
  sense_fixed (gap_of g) h =
      let upper = number_fixed g.upper h.upper in
      let lower = number_fixed g.lower h.lower in (
        upper.0 +ℚ neg_ℚ lower.0 +ℚ gap_constant g.strict,
        λ x. gap_fraction x g
            ∙ subst₂ (λ a b. fraction x g.upper +ℚ neg_ℚ (fraction x g.lower)
            +ℚ gap_constant g.strict ≡ a +ℚ neg_ℚ b +ℚ gap_constant g.strict) (upper.1 x)
            (lower.1 x) refl,
      )

  module _ (senses : List Sense) (t : Table) (kept : AreKeptRows senses t)
      (made_of : All (IsSenseOf fs) senses) where
    fixed : All (λ s. (q : ℚ) × IsFixed s q) senses
    fixed = All-weaker (IsSenseOf fs) (λ s. (q : ℚ) × IsFixed s q) sense_fixed senses made_of

    -- the row of a numeral
    row_of_numeral : (u : ℕ) (s : Term) (n : ℤ) → s ≡ Num n → StandsFor senses u (term s)
        → row_constant t (row_of t u) ≡ whole n
    row_of_numeral u s n is stands =
        let found = kept.rows.sound (sample t) (IsSolution-sample t kept.table) in
        found.1 u stands.there
        ∙ (ap (sense_fraction found.0) (stands.is ∙ ap term is) ∙ fraction-Num found.0 n)

    no_addends : (ps : List Part) (addends : List Addend) → addends ≡ []
        → AllZip (IsAddendOf senses) ps addends
        → ps ≡ []
    no_addends [] addends e zip = refl
    no_addends (p ∷ ps) [] e zip = absurd zip
    no_addends (p ∷ ps) (a ∷ rest) e zip = absurd (cc)

    no_row_jams : (s : Sense) → IsSenseOf fs s → RowJams senses t s → ⊥
    no_row_jams (term s) h row =
        let is = number_is_numeral fs free s h in
        let none = no_addends row.parts (form s).parts
        (ap (λ f. f.parts) (ap form is.1 ∙ form-Num is.0)) row.made_of.0 in
        row.jams (subst (PartsFit t (start_sum t row.constant)) (sym none) tt)
    no_row_jams (gap_of g) h row =
        let m = number_is_numeral fs free g.upper h.upper in
        let n = number_is_numeral fs free g.lower h.lower in
        let parts = row.made_of.0 in
        row.jams
        (subst₂ (λ k ps. PartsFit t (start_sum t k) ps) (sym row.made_of.1) (sym parts.parts)
        (gap_fits t (no_columns senses t kept fixed) g.strict parts.upper parts.lower m.0 n.0
        (numerals m.0 (subst (Contains (active_terms fs)) m.1 m.2))
        (numerals n.0 (subst (Contains (active_terms fs)) n.1 n.2))
        (row_of_numeral parts.upper g.upper m.0 m.1 parts.is_upper)
        (row_of_numeral parts.lower g.lower n.0 n.1 parts.is_lower)))

    no_step_jams : (u : Option ℕ) (step : Step) → KeptStepJams (IsSenseOf fs) senses t u step → ⊥
    no_step_jams None Row h = no_row_jams h.0 h.1 h.2
    no_step_jams None (Ratio w x) h = h
    no_step_jams None (Pivot w x) h = h
    no_step_jams (Some u) step h = no_maximising_jams senses t kept fixed u step h.1

  no_jam : (limit : ℕ) (stuck : Stuck) (why : Stop) → JamsAs fs limit stuck why → ⊥
  no_jam limit stuck (stop.Spill j) h =
      no_step_jams h.senses (tabled j.rows) h.kept h.made_of j.unknown j.step h.so
  no_jam limit stuck (stop.Form t) h =
      let is = number_is_numeral fs free t h.0 in
      h.1 (subst AllFit (sym (ap steps is.1 ∙ steps-Num is.0)) (All-nil FormStepFits))
  no_jam limit stuck (stop.Pivots j) h =
      no_run_is_spent h.1.senses (tabled j.rows) h.1.kept
      (fixed h.1.senses (tabled j.rows) h.1.kept h.1.made_of) j.unknown limit h.1.so
  no_jam limit stuck stop.Memory h = h

pub free_has_no_jam : FreeHasNoJam
free_has_no_jam fs limit stuck free numerals jam =
    no_jam fs free numerals limit stuck stuck.jam jam.jams
