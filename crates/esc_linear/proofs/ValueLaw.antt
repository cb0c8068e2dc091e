-- In each model the form of a term has the term's value.
use Rattle.std.proofs.Common.{◌≡◌, Bool, true, false, cond, nat_lt, ℤ, pos, ◌+ℤ◌, ◌-ℤ◌, neg_ℤ, List, [], ◌∷◌, map, length, refl, sym, ap, subst, ◌∙◌, arith}
use Rattle.std.specs.List.{All}
use Rattle.std.proofs.lemmas.Bool.{ltb-true}
use Rattle.std.proofs.lemmas.Int.{ints}
use Rattle.std.proofs.lemmas.List.Elements.{All-head, All-tail}
use denote.Hole.Carrier.{roll}
use Rattle.esc_term.specs.declared.term.Head.{Head}
use Rattle.esc_term.specs.declared.term.Head.TheVariants.{Add, Sub, Mul, Name, Skolem}
use Rattle.esc_term.specs.declared.term.Term.{Term}
use Rattle.esc_term.specs.declared.term.Term.TheVariants.{Var, App}
use Rattle.esc_term.specs.declared.term.Term.TheOpen.{Term-F}
use Rattle.esc_term.specs.declared.term.Term.TheViews.{roll-Term}
use Rattle.esc_term.specs.declared.term.Term.TheFolds.{map-Term, ind-Term}
use Rattle.esc_term.specs.Interpretation.{product_of}
use Rattle.esc_term.specs.Model.{Model, value_in}
use Rattle.esc_term.proofs.Models.{value_in-Num, value_in-App}
use Rattle.esc_frac.specs.Rational.{ℚ, whole, zero_ℚ, one_ℚ, ◌+ℚ◌, ◌*ℚ◌}
use Rattle.esc_frac.proofs.FieldLaws.{+ℚ-zero, zero-+ℚ, *ℚ_comm, *ℚ-one}
use Rattle.esc_frac.proofs.WholeLaws.{whole-*ℚ}
use Rattle.esc_linear.specs.declared.form.Part.{Part}
use Rattle.esc_linear.specs.Forms.{constant_form, opaque_form, is_constant, varying, factor_of, scaled_first, form}
use Rattle.esc_linear.specs.Laws.{Valuation, weighted, form_value}
use Rattle.esc_linear.proofs.Additive.{total-whole, less-whole, product-whole, HasConstant, Meets}
use Rattle.esc_linear.proofs.AllLemmas.{all_of_pairs}
use Rattle.esc_linear.proofs.FormLemmas.{value-plus, value-negative, value-scaled}
use Rattle.esc_linear.proofs.FormLevels.{form-Num, form-Var, form-App}

-- a constant form has its constant as value
pub weighted-none : (v : Valuation) (ps : List Part) → is_constant ps ≡ true → weighted v ps
    ≡ zero_ℚ
unfolding weighted is_constant
weighted-none v [] e = refl
weighted-none v (p ∷ ps) e = absurd (cc)

pub value-constant : (v : Valuation) (q : ℚ) → form_value v (constant_form q) ≡ q
unfolding weighted
value-constant v q = +ℚ-zero q

pub value-opaque : (v : Valuation) (t : Term) → form_value v (opaque_form t) ≡ v t
unfolding weighted
value-opaque v t = zero-+ℚ (one_ℚ *ℚ v t +ℚ zero_ℚ) ∙ +ℚ-zero (one_ℚ *ℚ v t) ∙ *ℚ_comm one_ℚ (v t)
    ∙ *ℚ-one (v t)

module _ (M : Model) where
  abbrev v : Valuation
  v o = whole (value_in M o)

  abbrev Valued : Term → Type 0
  Valued t = form_value v (form t) ≡ whole (value_in M t)

  opaque-valued : (t : Term) → form t ≡ opaque_form t → Valued t
  opaque-valued t e = ap (form_value v) e ∙ value-opaque v t

  has : (t : Term) → Valued t → HasConstant (value_in M) t
  has t h is = sym (+ℚ-zero (form t).constant) ∙ ap (λ x. (form t).constant
      +ℚ x) (sym (weighted-none v (form t).parts is)) ∙ h

  meets : (t : Term) (ts : List Term) → Valued t → All Valued ts
      → Meets (value_in M) (form_value v) (λ us. product_of (map (value_in M) us)) t ts
  meets t ts h all = record {
    constant = λ is. refl;
    other = λ none. ap (λ x. x *ℚ whole (product_of (map (value_in M) ts))) h
        ∙ whole-*ℚ (value_in M t) (product_of (map (value_in M) ts));
  }

  product-valued : (ts : List Term) → All Valued ts → Valued (App Mul ts)
  product-valued ts h = go (nat_lt (length (varying (map form ts))) 2) refl
    where
      go : (b : Bool) → nat_lt (length (varying (map form ts))) 2 ≡ b → Valued (App Mul ts)
      go true e =
          ap (form_value v) (form-App Mul ts ∙ ap (λ t. cond t
          (scaled_first (varying (map form ts)) (factor_of (map form ts)))
          (opaque_form (App Mul ts))) e)
          ∙ product-whole (value_in M) (form_value v) (λ us. product_of (map (value_in M) us))
          Valued (value-scaled v)
          (λ q. value-constant v q ∙ sym (*ℚ-one q)) has meets one_ℚ ts h
          (ltb-true (length (varying (map form ts))) 2 e)
          ∙ *ℚ_comm one_ℚ (whole (product_of (map (value_in M) ts)))
          ∙ *ℚ-one (whole (product_of (map (value_in M) ts)))
          ∙ ap whole (sym (value_in-App M Mul ts))
      go false e =
          opaque-valued (App Mul ts) (form-App Mul ts
          ∙ ap (λ t. cond t (scaled_first (varying (map form ts)) (factor_of (map form ts)))
          (opaque_form (App Mul ts))) e)

  App-valued : (head : Head) (ts : List Term) → All Valued ts → Valued (App head ts)
  App-valued Add ts h =
      ap (form_value v) (form-App Add ts)
      ∙ total-whole (form_value v) (value-plus v) (value_in M) (value-constant v zero_ℚ) ts h
      ∙ ap whole (sym (value_in-App M Add ts))
  App-valued Sub [] h = opaque-valued (App Sub []) (form-App Sub [])
  App-valued Sub (s ∷ []) h =
      ap (form_value v) (form-App Sub (s ∷ []))
      ∙ less-whole (form_value v) (value-plus v) (value-negative v) (constant_form zero_ℚ) (form s)
      (pos 0) (value_in M s) (value-constant v zero_ℚ) (All-head Valued s [] h)
      ∙ ap whole (from_zero (value_in M s) ∙ sym (value_in-App M Sub (s ∷ [])))
    where
      from_zero : (n : ℤ) → pos 0 +ℤ neg_ℤ n ≡ neg_ℤ n
      from_zero n = omega (arith, ints)
  App-valued Sub (s ∷ t ∷ []) h =
      ap (form_value v) (form-App Sub (s ∷ t ∷ []))
      ∙ less-whole (form_value v) (value-plus v) (value-negative v) (form s) (form t) (value_in M s)
      (value_in M t) (All-head Valued s (t ∷ []) h)
      (All-head Valued t [] (All-tail Valued s (t ∷ []) h))
      ∙ ap whole (taken (value_in M s) (value_in M t) ∙ sym (value_in-App M Sub (s ∷ t ∷ [])))
    where
      taken : (m n : ℤ) → m +ℤ neg_ℤ n ≡ m -ℤ (n +ℤ pos 0)
      taken m n = omega (arith, ints)
  App-valued Sub (s ∷ t ∷ u ∷ us) h = opaque-valued (App Sub (s ∷ t ∷ u ∷ us))
      (form-App Sub (s ∷ t ∷ u ∷ us))
  App-valued Mul ts h = product-valued ts h
  App-valued (Name f) ts h = opaque-valued (App (Name f) ts) (form-App (Name f) ts)
  App-valued (Skolem n i) ts h = opaque-valued (App (Skolem n i) ts) (form-App (Skolem n i) ts)

  valued_at : (y : Term-F ((t : Term) × Valued t))
      → Valued (roll-Term (map-Term ((t : Term) × Valued t) Term (λ e. e.0) y))
  unfolding roll-Term roll
  valued_at (Term-F.Num n) = ap (form_value v) (form-Num n) ∙ value-constant v (whole n)
      ∙ ap whole (sym (value_in-Num M n))
  valued_at (Term-F.Var k) = opaque-valued (Var k) (form-Var k)
  valued_at (Term-F.App head es) = App-valued head (map (λ e. e.0) es) (all_of_pairs Valued es)

  pub form-valued : (t : Term) → Valued t
  form-valued = ind-Term Valued (λ x y is. subst (λ z. Valued (roll-Term z)) is (valued_at y))
