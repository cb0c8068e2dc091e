-- A number of each form that is added when forms are: its constant, a coefficient, its value. Where
-- it is a whole number at each argument, so it is at a sum, a difference and a product.
use Rattle.std.proofs.Common.{◌≡◌, Bool, true, false, cond, not, ℤ, ◌+ℤ◌, ◌*ℤ◌, neg_ℤ, ◌<◌, List, [], ◌∷◌, map, length, refl, sym, ap, ap₂, ◌∙◌, arith}
use Rattle.std.specs.List.{All, fold}
use Rattle.std.proofs.lemmas.List.Elements.{All-head, All-tail}
use Rattle.esc_term.specs.declared.term.Term.{Term}
use Rattle.esc_term.specs.Interpretation.{sum_of, product_of}
use Rattle.esc_frac.specs.Rational.{ℚ, whole, zero_ℚ, ◌+ℚ◌, neg_ℚ, ◌*ℚ◌}
use Rattle.esc_frac.proofs.FieldLaws.{+ℚ_assoc, +ℚ-zero, zero-+ℚ, *ℚ_comm, *ℚ_assoc, *ℚ-one}
use Rattle.esc_frac.proofs.WholeLaws.{whole-+ℚ, whole-*ℚ, neg_ℚ-whole}
use Rattle.esc_linear.specs.declared.form.Form.{Form}
use Rattle.esc_linear.proofs.AllLemmas.{all_by}
use Rattle.esc_linear.specs.Forms.{constant_form, plus, negative, less, total, is_constant, varying, with_constant, scaled, scaled_first, form}

-- ---- sums and differences

module _ (φ : Form → ℚ) (adds : (a b : Form) → φ (plus a b) ≡ φ a +ℚ φ b) where
  total-from : (ψ : Term → ℤ) (c : Form) (ts : List Term) → All (λ t. φ (form t) ≡ whole (ψ t)) ts
      → φ (fold plus c (map form ts)) ≡ φ c +ℚ whole (sum_of (map ψ ts))
  total-from ψ c [] h = sym (+ℚ-zero (φ c))
  total-from ψ c (t ∷ ts) h =
      total-from ψ (plus c (form t)) ts (All-tail (λ t. φ (form t) ≡ whole (ψ t)) t ts h)
      ∙ ap (λ x. x +ℚ whole (sum_of (map ψ ts))) (adds c (form t)
      ∙ ap (λ x. φ c +ℚ x) (All-head (λ t. φ (form t) ≡ whole (ψ t)) t ts h))
      ∙ +ℚ_assoc (φ c) (whole (ψ t)) (whole (sum_of (map ψ ts)))
      ∙ ap (λ x. φ c +ℚ x) (whole-+ℚ (ψ t) (sum_of (map ψ ts)))

  pub total-whole : (ψ : Term → ℤ) → φ (constant_form zero_ℚ) ≡ zero_ℚ → (ts : List Term)
      → All (λ t. φ (form t) ≡ whole (ψ t)) ts → φ (total (map form ts)) ≡ whole (sum_of (map ψ ts))
  total-whole ψ none ts h =
      total-from ψ (constant_form zero_ℚ) ts h ∙ ap (λ x. x +ℚ whole (sum_of (map ψ ts))) none
      ∙ zero-+ℚ (whole (sum_of (map ψ ts)))

  pub less-whole : ((a : Form) → φ (negative a) ≡ neg_ℚ (φ a)) → (a b : Form) (m n : ℤ) → φ a
      ≡ whole m → φ b ≡ whole n → φ (less a b) ≡ whole (m +ℤ neg_ℤ n)
  less-whole turns a b m n e f =
      adds a (negative b) ∙ ap₂ (λ x y. x +ℚ y) e (turns b ∙ ap neg_ℚ f ∙ neg_ℚ-whole n)
      ∙ whole-+ℚ m (neg_ℤ n)

-- ---- products

none_left : (f : Form) (fs : List Form) → length (f ∷ fs) < 2 → fs ≡ []
none_left f [] few = refl
none_left f (g ∷ fs) few = absurd (omega arith)

-- γ is the number that a constant form is
module _ (γ : Term → ℤ) where
  abbrev pub HasConstant : Term → Type 0
  HasConstant t = is_constant (form t).parts ≡ true → (form t).constant ≡ whole (γ t)

  pub factor-whole : (q : ℚ) (ts : List Term) → All HasConstant ts → varying (map form ts) ≡ []
      → fold with_constant q (map form ts) ≡ q *ℚ whole (product_of (map γ ts))
  factor-whole q [] h none = sym (*ℚ-one q)
  factor-whole q (t ∷ ts) h none =
      go (λ r later. factor-whole r ts (All-tail HasConstant t ts h) later)
      (is_constant (form t).parts) refl none
    where
      go : ((r : ℚ) → varying (map form ts) ≡ [] → fold with_constant r (map form ts)
          ≡ r *ℚ whole (product_of (map γ ts)))
          → (b : Bool) → is_constant (form t).parts ≡ b
          → cond (not b) (form t ∷ varying (map form ts)) (varying (map form ts)) ≡ []
          → fold with_constant (cond b (q *ℚ (form t).constant) q) (map form ts)
          ≡ q *ℚ whole (γ t *ℤ product_of (map γ ts))
      go more true is e =
          more (q *ℚ (form t).constant) e
          ∙ ap (λ x. q *ℚ x *ℚ whole (product_of (map γ ts))) (All-head HasConstant t ts h is)
          ∙ *ℚ_assoc q (whole (γ t)) (whole (product_of (map γ ts)))
          ∙ ap (λ x. q *ℚ x) (whole-*ℚ (γ t) (product_of (map γ ts)))
      go more false is e = absurd (cc)

  -- ψ is what a product of terms gives: by a constant before others, and by another form before
  -- constants
  pub record Meets (φ : Form → ℚ) (ψ : List Term → ℤ) (t : Term) (ts : List Term) : Type 0 where
    pub constant : is_constant (form t).parts ≡ true → γ t *ℤ ψ ts ≡ ψ (t ∷ ts)
    pub other : varying (map form ts) ≡ [] → φ (form t) *ℚ whole (product_of (map γ ts))
        ≡ whole (ψ (t ∷ ts))

  module _ (φ : Form → ℚ) (ψ : List Term → ℤ) (Fact : Term → Type 0)
      (scales : (a : Form) (q : ℚ) → φ (scaled a q) ≡ φ a *ℚ q)
      (alone : (q : ℚ) → φ (constant_form q) ≡ q *ℚ whole (ψ []))
      (has : (t : Term) → Fact t → HasConstant t)
      (meets : (t : Term) (ts : List Term) → Fact t → All Fact ts → Meets φ ψ t ts) where
    all_have : (ts : List Term) → All Fact ts → All HasConstant ts
    all_have ts h = all_by Fact HasConstant has ts h

    pub product-whole : (q : ℚ) (ts : List Term) → All Fact ts → length (varying (map form ts)) < 2
        → φ (scaled_first (varying (map form ts)) (fold with_constant q (map form ts)))
        ≡ q *ℚ whole (ψ ts)
    unfolding scaled_first
    product-whole q [] h few = alone q
    product-whole q (t ∷ ts) h few =
        go (λ r later. product-whole r ts (All-tail Fact t ts h) later) (is_constant (form t).parts)
        refl few
      where
        met : Meets φ ψ t ts
        met = meets t ts (All-head Fact t ts h) (All-tail Fact t ts h)

        go : ((r : ℚ) → length (varying (map form ts)) < 2
            → φ (scaled_first (varying (map form ts)) (fold with_constant r (map form ts)))
            ≡ r *ℚ whole (ψ ts))
            → (b : Bool) → is_constant (form t).parts ≡ b
            → length (cond (not b) (form t ∷ varying (map form ts)) (varying (map form ts))) < 2
            → φ (scaled_first (cond (not b) (form t ∷ varying (map form ts))
            (varying (map form ts))) (fold with_constant (cond b (q *ℚ (form t).constant) q)
            (map form ts))) ≡ q *ℚ whole (ψ (t ∷ ts))
        go more true is fewer =
            more (q *ℚ (form t).constant) fewer
            ∙ ap (λ x. q *ℚ x *ℚ whole (ψ ts)) (has t (All-head Fact t ts h) is)
            ∙ *ℚ_assoc q (whole (γ t)) (whole (ψ ts))
            ∙ ap (λ x. q *ℚ x) (whole-*ℚ (γ t) (ψ ts) ∙ ap whole (met.constant is))
        go more false is fewer =
            let none = none_left (form t) (varying (map form ts)) fewer in
            let W = whole (product_of (map γ ts)) in
            scales (form t) (fold with_constant q (map form ts))
            ∙ ap (λ x. φ (form t) *ℚ x) (factor-whole q ts
            (all_have ts (All-tail Fact t ts h)) none)
            ∙ sym (*ℚ_assoc (φ (form t)) q W) ∙ ap (λ x. x *ℚ W) (*ℚ_comm (φ (form t)) q)
            ∙ *ℚ_assoc q (φ (form t)) W
            ∙ ap (λ x. q *ℚ x) (met.other none)
