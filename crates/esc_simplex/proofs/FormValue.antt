-- The value of a term under an assignment is that of its form.
use Rattle.std.proofs.Common.{◌≡◌, ◌≢◌, ◌⊎◌, inl, inr, cond, ℤ, pos, ◌*ℤ◌, List, [], ◌∷◌, map, refl, sym, ap, ap₂, ◌∙◌, subst}
use Rattle.std.specs.List.{All, Contains}
use Rattle.std.proofs.lemmas.List.Elements.{All-head, All-tail}
use Rattle.esc_term.specs.declared.term.Term.{Term}
use Rattle.esc_term.specs.Equal.{same_term-is}
use Rattle.esc_term.specs.Interpretation.{sum_of}
use Rattle.esc_term.specs.Term.{firsts, subterms}
use Rattle.esc_term.proofs.Members.{Contains-none, Contains-here, Contains-later, Contains-cases}
use Rattle.esc_frac.specs.Rational.{ℚ, ratio, whole, zero_ℚ, one_ℚ, ◌+ℚ◌, ◌*ℚ◌}
use Rattle.esc_frac.proofs.FieldLaws.{ratio-zero, +ℚ_interchange, +ℚ-zero, zero-+ℚ, *ℚ-zero, zero-*ℚ, *ℚ_comm, *ℚ_assoc, *ℚ-one, *ℚ-+ℚ, +ℚ-*ℚ}
use Rattle.esc_linear.specs.declared.form.Part.{Part}
use Rattle.esc_linear.specs.Forms.{form, opaque_form}
use Rattle.esc_linear.specs.Laws.{IsLin, only, weighted, form_value}
use Rattle.esc_linear.specs.Lin.{lin}
use Rattle.esc_linear.proofs.PartLemmas.{differ_when}
use Rattle.esc_linear.proofs.ProductLaw.{form-meant}
use Rattle.esc_linear.proofs.ValueLaw.{value-opaque}
use Rattle.esc_cover.specs.Assignment.{Assignment, value}
use Rattle.esc_cover.specs.Counterexample.{fraction}
use Rattle.esc_cover.proofs.ActiveTerms.{firsts_have}
use Rattle.esc_simplex.proofs.Fractions.{ratio-+, ratio-scaled, ratio-full}
use Rattle.esc_simplex.proofs.Firsts.{IsOnce, firsts_once}

-- ---- sums over terms

abbrev total : (Term → ℚ) → List Term → ℚ
total f [] = zero_ℚ
total f (t ∷ ts) = f t +ℚ total f ts

total-alike : (f g : Term → ℚ) → ((t : Term) → f t ≡ g t) → (ts : List Term) → total f ts
    ≡ total g ts
total-alike f g same [] = refl
total-alike f g same (t ∷ ts) = ap₂ (λ x y. x +ℚ y) (same t) (total-alike f g same ts)

total-zero : (ts : List Term) → total (λ t. zero_ℚ) ts ≡ zero_ℚ
total-zero [] = refl
total-zero (t ∷ ts) = ap (λ x. zero_ℚ +ℚ x) (total-zero ts) ∙ zero-+ℚ zero_ℚ

total-+ : (f g : Term → ℚ) (ts : List Term) → total (λ t. f t +ℚ g t) ts ≡ total f ts +ℚ total g ts
total-+ f g [] = sym (zero-+ℚ zero_ℚ)
total-+ f g (t ∷ ts) = ap (λ x. f t +ℚ g t +ℚ x) (total-+ f g ts)
    ∙ +ℚ_interchange (f t) (g t) (total f ts) (total g ts)

total-scaled : (q : ℚ) (f : Term → ℚ) (ts : List Term) → total (λ t. q *ℚ f t) ts ≡ q *ℚ total f ts
total-scaled q f [] = sym (*ℚ-zero q)
total-scaled q f (t ∷ ts) = ap (λ x. q *ℚ f t +ℚ x) (total-scaled q f ts)
    ∙ sym (*ℚ-+ℚ q (f t) (total f ts))

-- ---- the one term

only_other : (o t : Term) → o ≢ t → only o t ≡ zero_ℚ
only_other o t h = ap (λ b. cond b one_ℚ zero_ℚ) (differ_when o t h)

only_same : (t : Term) → only t t ≡ one_ℚ
only_same t = ap (λ b. cond b one_ℚ zero_ℚ) ((same_term-is t t).1 refl)

pick_none : (t : Term) (w : Term → ℚ) (ts : List Term) → (Contains ts t → ⊥)
    → total (λ o. only o t *ℚ w o) ts ≡ zero_ℚ
pick_none t w [] none = refl
pick_none t w (o ∷ os) none =
    ap₂ (λ x y. x *ℚ w o +ℚ y) (only_other o t (λ e. none
    (subst (Contains (o ∷ os)) e (Contains-here o os))))
    (pick_none t w os (λ h. none (Contains-later o os t h)))
    ∙ ap (λ x. x +ℚ zero_ℚ) (zero-*ℚ (w o)) ∙ zero-+ℚ zero_ℚ

pick : (t : Term) (w : Term → ℚ) (ts : List Term) → IsOnce ts → Contains ts t
    → total (λ o. only o t *ℚ w o) ts ≡ w t
pick t w [] once h = absurd (Contains-none t h)
pick t w (o ∷ os) once h = go (pick t w os once.1) (Contains-cases o os t h)
  where
    go : (Contains os t → total (λ u. only u t *ℚ w u) os ≡ w t) → (o ≡ t) ⊎ Contains os t
        → only o t *ℚ w o +ℚ total (λ u. only u t *ℚ w u) os ≡ w t
    go rest (inl e) =
        ap₂ (λ x y. x *ℚ w o +ℚ y) (ap (λ u. only u t) e ∙ only_same t)
        (pick_none t w os (λ k. once.0 (subst (Contains os) (sym e) k)))
        ∙ +ℚ-zero (one_ℚ *ℚ w o) ∙ *ℚ_comm one_ℚ (w o) ∙ *ℚ-one (w o) ∙ ap w e
    go rest (inr k) =
        ap₂ (λ x y. x *ℚ w o +ℚ y) (only_other o t (λ e. once.0 (subst (Contains os) (sym e) k)))
        (rest k)
        ∙ ap (λ x. x +ℚ w t) (zero-*ℚ (w o)) ∙ zero-+ℚ (w t)

-- the sum over terms, each once, of their coefficients in the parts
swap : (w : Term → ℚ) (ts : List Term) → IsOnce ts → (ps : List Part)
    → All (λ p. Contains ts p.term) ps → total (λ o. weighted (only o) ps *ℚ w o) ts ≡ weighted w ps
unfolding weighted
swap w ts once [] inside = total-alike (λ o. zero_ℚ *ℚ w o) (λ o. zero_ℚ) (λ o. zero-*ℚ (w o)) ts
    ∙ total-zero ts
swap w ts once (p ∷ ps) inside =
    total-alike _ (λ o. p.factor *ℚ (only o p.term *ℚ w o) +ℚ weighted (only o) ps *ℚ w o)
    (λ o. +ℚ-*ℚ (p.factor *ℚ only o p.term) (weighted (only o) ps) (w o)
    ∙ ap (λ x. x +ℚ weighted (only o) ps *ℚ w o) (*ℚ_assoc p.factor (only o p.term) (w o))) ts
    ∙ total-+ (λ o. p.factor *ℚ (only o p.term *ℚ w o)) (λ o. weighted (only o) ps *ℚ w o) ts
    ∙ ap₂ (λ x y. x +ℚ y)
    (total-scaled p.factor (λ o. only o p.term *ℚ w o) ts
    ∙ ap (λ x. p.factor *ℚ x) (pick p.term w ts once
    (All-head (λ (q : Part). Contains ts q.term) p ps inside)))
    (swap w ts once ps (All-tail (λ (q : Part). Contains ts q.term) p ps inside))

-- ---- values

-- what is given to a term
abbrev pub given : Assignment → Term → ℚ
given v o = ratio (v.numerator o) v.denominator

total-ratio : (v : Assignment) (c : Term → ℤ) (ts : List Term)
    → ratio (sum_of (map (λ o. c o *ℤ v.numerator o) ts)) v.denominator
    ≡ total (λ o. whole (c o) *ℚ given v o) ts
total-ratio v c [] = ratio-zero v.denominator v.positive
total-ratio v c (t ∷ ts) =
    ratio-+ (c t *ℤ v.numerator t) _ v.denominator v.positive
    ∙ ap₂ (λ x y. x +ℚ y) (ratio-scaled (c t) (v.numerator t) v.denominator v.positive)
    (total-ratio v c ts)

pub value-form : (v : Assignment) (t : Term) → fraction v t ≡ form_value (given v) (form t)
unfolding value
value-form v t =
    ratio-+ (pos v.denominator *ℤ (lin t).constant) _ v.denominator v.positive
    ∙ ap₂ (λ x y. x +ℚ y)
    (ratio-full (lin t).constant v.denominator v.positive ∙ sym meant.constant)
    (total-ratio v (lin t).coefficient terms
    ∙ total-alike (λ o. whole ((lin t).coefficient o) *ℚ given v o)
    (λ o. weighted (only o) (form t).parts *ℚ given v o)
    (λ o. ap (λ x. x *ℚ given v o) (sym (meant.coefficients o))) terms
    ∙ swap (given v) terms (firsts_once (subterms t)) (form t).parts
    (λ k d h. firsts_have (subterms t) [] _ (meant.inside k d h)))
  where
    meant : IsLin t (form t)
    meant = form-meant t

    terms : List Term
    terms = firsts (subterms t)

-- that of a term that arithmetic does not look into is what is given to it
pub value-opaque_form : (v : Assignment) (o : Term) → form o ≡ opaque_form o → fraction v o
    ≡ given v o
value-opaque_form v o e = value-form v o ∙ ap (form_value (given v)) e ∙ value-opaque (given v) o
