-- A term whose form is a number comes to this number.
use Rattle.std.proofs.Common.{◌≡◌, ℤ, pos, ◌+ℤ◌, ◌*ℤ◌, List, [], ◌∷◌, map, refl, sym, ap, ap₂, ◌∙◌}
use Rattle.std.proofs.Common.{arith}
use Rattle.std.proofs.Math.IntN.{*ℤ_comm}
use Rattle.std.proofs.lemmas.Int.{ints}
use Rattle.esc_term.specs.declared.term.Term.{Term}
use Rattle.esc_term.specs.Interpretation.{sum_of}
use Rattle.esc_term.specs.Term.{firsts, subterms}
use Rattle.esc_frac.specs.Rational.{ℚ}
use Rattle.esc_linear.specs.declared.form.Form.{Form}
use Rattle.esc_linear.specs.Laws.{IsLin, only, weighted}
use Rattle.esc_linear.specs.Lin.{lin}
use Rattle.esc_cover.specs.Assignment.{value}
use Rattle.sharing_cases.specs.ConstantTerms.{IsWorth}

none_times : (z : ℤ) → pos 0 *ℤ z ≡ pos 0
none_times z = omega (arith, ints)

and_none : (z : ℤ) → z +ℤ pos 0 ≡ z
and_none z = omega (arith, ints)

sum_of_none : (c v : Term → ℤ) → ((o : Term) → c o ≡ pos 0) → (ts : List Term)
    → sum_of (map (λ o. c o *ℤ v o) ts) ≡ pos 0
sum_of_none c v none [] = refl
sum_of_none c v none (t ∷ ts) = ap₂ (λ x y. x +ℤ y) (ap (λ z. z *ℤ v t) (none t) ∙ none_times (v t))
    (sum_of_none c v none ts)

module _ (t : Term) (f : Form) (is : IsLin t f) (none : f.parts ≡ []) where
  constant_is : (lin t).constant ≡ f.constant.num
  constant_is = sym (ap (λ (q : ℚ). q.num) is.constant)

  no_coefficient : (o : Term) → (lin t).coefficient o ≡ pos 0
  unfolding weighted
  no_coefficient o =
      sym (ap (λ (q : ℚ). q.num) (sym (ap (weighted (only o)) none) ∙ is.coefficients o))

  pub constant_worth : IsWorth t f.constant.num
  unfolding value
  constant_worth x =
      ap₂ (λ a b. a +ℤ b) (*ℤ_comm (pos x.denominator) (lin t).constant
      ∙ ap (λ c. c *ℤ pos x.denominator) constant_is)
      (sum_of_none (lin t).coefficient x.numerator no_coefficient (firsts (subterms t)))
      ∙ and_none (f.constant.num *ℤ pos x.denominator)
