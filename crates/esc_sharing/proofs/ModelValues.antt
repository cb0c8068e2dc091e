-- A model is an assignment with denominator 1: terms have their values of the model, and the orders
-- that hold in it are satisfied.
use Rattle.std.proofs.Common.{◌≡◌, ℤ, pos, ◌-ℤ◌, zero-lt-suc, ◌≤ℤ◌, Bool, true, false, List, []}
use Rattle.std.proofs.Common.{◌∷◌, if◌then◌else◌, refl, ap, sym, subst, ◌∙◌, arith}
use Rattle.std.specs.Prelude.{int_lt}
use borrow.Author.Differences.{lt-true, lt-false}
use Rattle.std.proofs.lemmas.Int.{ints}
use Rattle.std.proofs.lemmas.List.Elements.{All-cons, All-nil}
use Rattle.esc_term.specs.declared.term.Term.{Term}
use Rattle.esc_term.specs.declared.formula.Formula.{Formula, out-Formula}
use Rattle.esc_term.specs.declared.formula.Formula.TheVariants.{rolls-Less}
use Rattle.esc_term.specs.declared.formula.Formula.TheOpen.{Formula-F}
use Rattle.esc_term.specs.declared.formula.Formula.TheViews.{roll-Formula, roll-out-Formula}
use Rattle.esc_term.specs.declared.formula.Quant.{Quant}
use Rattle.esc_term.specs.declared.formula.Item.{Item}
use Rattle.esc_term.specs.Interpretation.{truth}
use Rattle.esc_term.specs.Model.{Model, read_in, value_in}
use Rattle.esc_term.proofs.TruthLevels.{truth-Less}
use Rattle.esc_frac.specs.Rational.{ℚ, whole, ◌+ℚ◌, ◌*ℚ◌}
use Rattle.esc_frac.proofs.WholeLaws.{whole_same}
use Rattle.esc_linear.specs.declared.form.Part.{Part}
use Rattle.esc_linear.specs.Forms.{form}
use Rattle.esc_linear.specs.Laws.{weighted}
use Rattle.esc_linear.proofs.ValueLaw.{form-valued}
use Rattle.esc_cover.specs.Assignment.{Assignment, Gap, NoneNegative, asked, asked_form, gap_value}
use Rattle.esc_cover.specs.Assignment.{gap, value}
use Rattle.esc_cover.specs.Laws.{HoldsIn}
use Rattle.esc_simplex.proofs.FormValue.{given, value-form}
use Rattle.esc_simplex.proofs.Fractions.{ratio-whole}

abbrev pub assignment_of : Model → Assignment
assignment_of M = record { denominator = 1; positive = zero-lt-suc 0; numerator = value_in M }

weighted-alike : (v w : Term → ℚ) → ((t : Term) → v t ≡ w t) → (ps : List Part)
    → weighted v ps ≡ weighted w ps
unfolding weighted
weighted-alike v w same [] = refl
weighted-alike v w same (p ∷ ps) =
    ap (λ q. p.factor *ℚ q +ℚ weighted v ps) (same p.term)
    ∙ ap (λ q. p.factor *ℚ w p.term +ℚ q) (weighted-alike v w same ps)

module _ (M : Model) where
  pub value-model : (t : Term) → value (assignment_of M) t ≡ value_in M t
  value-model t =
      whole_same (value (assignment_of M) t) (value_in M t)
      (sym (ratio-whole (value (assignment_of M) t))
      ∙ (value-form (assignment_of M) t
      ∙ (ap (λ q. (form t).constant +ℚ q) (weighted-alike (given (assignment_of M))
      (λ o. whole (value_in M o)) (λ o. ratio-whole (value_in M o)) (form t).parts)
      ∙ form-valued M t)))

  -- the value of a gap
  abbrev gap-model : (s t : Term) (strict : Bool) → ℤ
  gap-model s t strict = value_in M s -ℤ value_in M t -ℤ (if strict then pos 1 else pos 0)

  gap_value-model : (g : Gap) → gap_value (assignment_of M) g
      ≡ gap-model g.upper g.lower g.strict
  gap_value-model g =
      ap (λ n. n -ℤ value (assignment_of M) g.lower -ℤ (if g.strict then pos 1 else pos 0))
      (value-model g.upper)
      ∙ ap (λ n. value_in M g.upper -ℤ n -ℤ (if g.strict then pos 1 else pos 0))
      (value-model g.lower)

  one_asked : (g : Gap) → pos 0 ≤ℤ gap-model g.upper g.lower g.strict
      → NoneNegative (assignment_of M) (g ∷ [])
  one_asked g least =
      All-cons (λ h. pos 0 ≤ℤ gap_value (assignment_of M) h) g []
      (subst (λ n. pos 0 ≤ℤ n) (sym (gap_value-model g)) least)
      (All-nil (λ h. pos 0 ≤ℤ gap_value (assignment_of M) h))

  order_asked : (s t : Term) (positive : Bool) → int_lt (value_in M s) (value_in M t) ≡ positive
      → NoneNegative (assignment_of M) (asked_form (Formula-F.Less s t) positive)
  order_asked s t true e =
      one_asked (gap t s true) (omega (arith, ints, lt-true (value_in M s) (value_in M t) e))
  order_asked s t false e =
      one_asked (gap s t false) (omega (arith, ints, lt-false (value_in M s) (value_in M t) e))

  none_asked : NoneNegative (assignment_of M) []
  none_asked = All-nil (λ h. pos 0 ≤ℤ gap_value (assignment_of M) h)

  form_asked : (form : Formula-F Formula Quant) (positive : Bool)
      → truth (read_in M) (roll-Formula form) ≡ positive
      → NoneNegative (assignment_of M) (asked_form form positive)
  form_asked (Formula-F.Less s t) positive e =
      order_asked s t positive (sym (truth-Less (read_in M) s t)
      ∙ (ap (truth (read_in M)) (sym (rolls-Less s t)) ∙ e))
  form_asked _ positive e = none_asked

  -- what holds in the model is satisfied
  pub asked-model : (item : Item) → HoldsIn M item
      → NoneNegative (assignment_of M) (asked item)
  asked-model item holds =
      form_asked (out-Formula item.formula) item.positive
      (ap (truth (read_in M)) (roll-out-Formula item.formula) ∙ holds)
