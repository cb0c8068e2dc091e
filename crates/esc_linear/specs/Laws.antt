-- What holds of the form of a term.
use Rattle.std.specs.Prelude.{◌≡◌, ◌≢◌, if◌then◌else◌, List, [], ◌∷◌}
use Rattle.std.specs.List.{All, Contains}
use Rattle.esc_term.specs.declared.term.Term.{Term}
use Rattle.esc_term.specs.Equal.{same_term}
use Rattle.esc_term.specs.Model.{Model, value_in}
use Rattle.esc_term.specs.Term.{subterms}
use Rattle.esc_frac.specs.Rational.{ℚ, whole, zero_ℚ, one_ℚ, ◌+ℚ◌, ◌-ℚ◌, ◌*ℚ◌}
use Rattle.esc_linear.specs.declared.form.Form.{Form}
use Rattle.esc_linear.specs.declared.form.Part.{Part}
use Rattle.esc_linear.specs.Forms.{form, less, opaque_form}
use Rattle.esc_linear.specs.Lin.{lin}

-- what each term that arithmetic does not look into stands for
abbrev pub Valuation : Type 0
Valuation = Term → ℚ

unfoldable pub weighted : Valuation → List Part → ℚ
weighted v [] = zero_ℚ
weighted v (p ∷ ps) = p.factor *ℚ v p.term +ℚ weighted v ps

-- the value of a form under a valuation
abbrev pub form_value : Valuation → Form → ℚ
form_value v f = f.constant +ℚ weighted v f.parts

-- 1 for one term, and 0 for the others
abbrev pub only : Term → Valuation
only o t = if same_term o t then one_ℚ else zero_ℚ

-- the coefficient of the term, 0 where it is not in the form
abbrev pub coefficient : Form → Term → ℚ
coefficient f o = weighted (only o) f.parts

-- no two parts have one term
unfoldable pub Apart : List Part → Type 0
Apart [] = Unit
Apart (p ∷ ps) = All (λ (q : Part). q.term ≢ p.term) ps × Apart ps

-- each term once, and no coefficient 0
pub record IsNormal (f : Form) : Type 0 where
  pub apart : Apart f.parts
  pub nonzero : All (λ (p : Part). p.factor ≢ zero_ℚ) f.parts

-- the form is the linear meaning of the term
pub record IsLin (t : Term) (f : Form) : Type 0 where
  pub normal : IsNormal f
  pub constant : f.constant ≡ whole (lin t).constant
  pub coefficients : (o : Term) → coefficient f o ≡ whole ((lin t).coefficient o)
  -- its terms stand in the term, and are opaque
  pub inside : All (λ (p : Part). Contains (subterms t) p.term) f.parts
  pub opaque : All (λ (p : Part). form p.term ≡ opaque_form p.term) f.parts

abbrev pub FormIsLin : Type 0
FormIsLin = (t : Term) → IsLin t (form t)

-- in each model the form has the value of the term
abbrev pub FormHasValue : Type 0
FormHasValue = (M : Model) (t : Term) → form_value (λ o. whole (value_in M o)) (form t)
    ≡ whole (value_in M t)

-- a difference has the difference of the values
abbrev pub DifferenceHasValue : Type 0
DifferenceHasValue = (v : Valuation) (a b : Form) → form_value v (less a b)
    ≡ form_value v a -ℚ form_value v b

abbrev pub DifferenceIsNormal : Type 0
DifferenceIsNormal = (a b : Form) → IsNormal a → IsNormal (less a b)
