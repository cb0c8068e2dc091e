-- The parts of a form, when a multiple of one term is added: their value, and what holds of each.
use Rattle.std.proofs.Common.{◌≡◌, ◌≢◌, Bool, true, false, cond, List, [], ◌∷◌, map, pos, refl, sym, ap, ap₂, ◌∙◌, subst}
use Rattle.std.specs.List.{All}
use Rattle.std.proofs.lemmas.Bool.Decides.{Decides-int_eq, not_from_Decides}
use Rattle.std.proofs.lemmas.List.Elements.{All-nil, All-cons, All-head, All-tail, All-map}
use Rattle.esc_term.specs.declared.term.Term.{Term}
use Rattle.esc_term.specs.Equal.{same_term, same_term-is}
use Rattle.esc_frac.specs.Rational.{ℚ, zero_ℚ, is_zero, ◌+ℚ◌, neg_ℚ, ◌*ℚ◌}
use Rattle.esc_frac.specs.RationalLaws.{zero_from_num}
use Rattle.esc_frac.proofs.FieldLaws.{+ℚ_comm, +ℚ_assoc, +ℚ-zero, zero-+ℚ, +ℚ_right_comm, neg_ℚ-zero, neg_ℚ-+ℚ, neg_ℚ-*ℚ, +ℚ-*ℚ, zero-*ℚ, *ℚ_right_comm}
use Rattle.esc_linear.specs.declared.form.Part.{Part}
use Rattle.esc_linear.specs.Forms.{part, with_factor, with_part, with_parts, scaled_parts}
use Rattle.esc_linear.specs.Laws.{Valuation, weighted, Apart}
use Rattle.esc_linear.specs.PlacesInside.{IsNowhere}

-- ---- tests

pub zero_when : (q : ℚ) → is_zero q ≡ true → q ≡ zero_ℚ
zero_when q h = zero_from_num q ((Decides-int_eq q.num (pos 0)).0 h)

pub nonzero_when : (q : ℚ) → is_zero q ≡ false → q ≢ zero_ℚ
nonzero_when q h e = not_from_Decides (is_zero q) (Decides-int_eq q.num (pos 0)) h
    (ap (λ (r : ℚ). r.num) e)

pub differ_when : (s t : Term) → s ≢ t → same_term s t ≡ false
differ_when s t h = go (same_term s t) refl
  where
    go : (b : Bool) → same_term s t ≡ b → b ≡ false
    go true e = absurd (h ((same_term-is s t).0 e))
    go false e = refl

-- ---- values

pub weighted-with_factor : (v : Valuation) (t : Term) (q : ℚ) (ps : List Part)
    → weighted v (with_factor t q ps) ≡ q *ℚ v t +ℚ weighted v ps
unfolding weighted
weighted-with_factor v t q ps = go (is_zero q) refl
  where
    go : (b : Bool) → is_zero q ≡ b → weighted v (cond b ps (part t q ∷ ps)) ≡ q *ℚ v t
        +ℚ weighted v ps
    go true e = sym (zero-+ℚ (weighted v ps)) ∙ ap (λ x. x +ℚ weighted v ps) (sym (zero-*ℚ (v t))
        ∙ ap (λ x. x *ℚ v t) (sym (zero_when q e)))
    go false e = refl

pub weighted-with_part : (v : Valuation) (ps : List Part) (t : Term) (q : ℚ)
    → weighted v (with_part ps t q) ≡ weighted v ps +ℚ q *ℚ v t
unfolding weighted with_part
weighted-with_part v [] t q = weighted-with_factor v t q [] ∙ +ℚ_comm (q *ℚ v t) zero_ℚ
weighted-with_part v (p ∷ ps) t q = go (weighted-with_part v ps t q) (same_term p.term t) refl
  where
    go : weighted v (with_part ps t q) ≡ weighted v ps +ℚ q *ℚ v t → (b : Bool) → same_term p.term t
        ≡ b → weighted v (cond b (with_factor t (p.factor +ℚ q) ps) (p ∷ with_part ps t q))
        ≡ p.factor *ℚ v p.term +ℚ weighted v ps +ℚ q *ℚ v t
    go later true e =
        weighted-with_factor v t (p.factor +ℚ q) ps
        ∙ ap (λ x. x +ℚ weighted v ps) (+ℚ-*ℚ p.factor q (v t))
        ∙ +ℚ_right_comm (p.factor *ℚ v t) (q *ℚ v t) (weighted v ps)
        ∙ ap (λ s. p.factor *ℚ v s +ℚ weighted v ps +ℚ q *ℚ v t) (sym ((same_term-is p.term t).0 e))
    go later false e =
        ap (λ x. p.factor *ℚ v p.term +ℚ x) later
        ∙ sym (+ℚ_assoc (p.factor *ℚ v p.term) (weighted v ps) (q *ℚ v t))

pub weighted-with_parts : (v : Valuation) (ps qs : List Part) → weighted v (with_parts ps qs)
    ≡ weighted v ps +ℚ weighted v qs
unfolding weighted
weighted-with_parts v ps [] = sym (+ℚ-zero (weighted v ps))
weighted-with_parts v ps (q ∷ qs) =
    weighted-with_parts v (with_part ps q.term q.factor) qs
    ∙ ap (λ x. x +ℚ weighted v qs) (weighted-with_part v ps q.term q.factor)
    ∙ +ℚ_assoc (weighted v ps) (q.factor *ℚ v q.term) (weighted v qs)

abbrev pub negative_part : Part → Part
negative_part p = part p.term (neg_ℚ p.factor)

pub weighted-negative : (v : Valuation) (ps : List Part) → weighted v (map negative_part ps)
    ≡ neg_ℚ (weighted v ps)
unfolding weighted
weighted-negative v [] = sym neg_ℚ-zero
weighted-negative v (p ∷ ps) =
    ap₂ (λ x y. x +ℚ y) (neg_ℚ-*ℚ p.factor (v p.term)) (weighted-negative v ps)
    ∙ sym (neg_ℚ-+ℚ (p.factor *ℚ v p.term) (weighted v ps))

pub weighted-scaled_parts : (v : Valuation) (ps : List Part) (q : ℚ)
    → weighted v (scaled_parts ps q) ≡ weighted v ps *ℚ q
unfolding weighted scaled_parts
weighted-scaled_parts v [] q = sym (zero-*ℚ q)
weighted-scaled_parts v (p ∷ ps) q =
    weighted-with_factor v p.term (p.factor *ℚ q) (scaled_parts ps q)
    ∙ ap₂ (λ x y. x +ℚ y) (*ℚ_right_comm p.factor q (v p.term)) (weighted-scaled_parts v ps q)
    ∙ sym (+ℚ-*ℚ (p.factor *ℚ v p.term) (weighted v ps) q)

-- ---- what holds of each term

abbrev pub AllTerms : (Term → Type 0) → List Part → Type 0
AllTerms P = All (λ (p : Part). P p.term)

pub AllTerms-with_factor : (P : Term → Type 0) (t : Term) (q : ℚ) (ps : List Part) → P t
    → AllTerms P ps → AllTerms P (with_factor t q ps)
AllTerms-with_factor P t q ps here all = go (is_zero q)
  where
    go : (b : Bool) → AllTerms P (cond b ps (part t q ∷ ps))
    go true = all
    go false = All-cons (λ (p : Part). P p.term) (part t q) ps here all

pub AllTerms-with_part : (P : Term → Type 0) (ps : List Part) (t : Term) (q : ℚ) → AllTerms P ps
    → P t → AllTerms P (with_part ps t q)
unfolding with_part
AllTerms-with_part P [] t q all here = AllTerms-with_factor P t q [] here all
AllTerms-with_part P (p ∷ ps) t q all here =
    let rest = All-tail (λ (p : Part). P p.term) p ps all in
    go rest (AllTerms-with_part P ps t q rest here) (same_term p.term t)
  where
    go : AllTerms P ps → AllTerms P (with_part ps t q) → (b : Bool)
        → AllTerms P (cond b (with_factor t (p.factor +ℚ q) ps) (p ∷ with_part ps t q))
    go rest later true = AllTerms-with_factor P t (p.factor +ℚ q) ps here rest
    go rest later false = All-cons (λ (p : Part). P p.term) p (with_part ps t q)
        (All-head (λ (p : Part). P p.term) p ps all) later

pub AllTerms-with_parts : (P : Term → Type 0) (ps qs : List Part) → AllTerms P ps → AllTerms P qs
    → AllTerms P (with_parts ps qs)
AllTerms-with_parts P ps [] all more = all
AllTerms-with_parts P ps (q ∷ qs) all more =
    AllTerms-with_parts P (with_part ps q.term q.factor) qs
    (AllTerms-with_part P ps q.term q.factor all (All-head (λ (p : Part). P p.term) q qs more))
    (All-tail (λ (p : Part). P p.term) q qs more)

pub AllTerms-negative : (P : Term → Type 0) (ps : List Part) → AllTerms P ps
    → AllTerms P (map negative_part ps)
AllTerms-negative P ps all = All-map (λ (p : Part). P p.term) negative_part ps all

pub AllTerms-scaled_parts : (P : Term → Type 0) (ps : List Part) (q : ℚ) → AllTerms P ps
    → AllTerms P (scaled_parts ps q)
unfolding scaled_parts
AllTerms-scaled_parts P [] q all = all
AllTerms-scaled_parts P (p ∷ ps) q all =
    AllTerms-with_factor P p.term (p.factor *ℚ q) (scaled_parts ps q)
    (All-head (λ (p : Part). P p.term) p ps all)
    (AllTerms-scaled_parts P ps q (All-tail (λ (p : Part). P p.term) p ps all))

-- ---- no coefficient 0

abbrev pub AllNonzero : List Part → Type 0
AllNonzero = All (λ (p : Part). p.factor ≢ zero_ℚ)

pub AllNonzero-with_factor : (t : Term) (q : ℚ) (ps : List Part) → AllNonzero ps
    → AllNonzero (with_factor t q ps)
AllNonzero-with_factor t q ps all = go (is_zero q) refl
  where
    go : (b : Bool) → is_zero q ≡ b → AllNonzero (cond b ps (part t q ∷ ps))
    go true e = all
    go false e = All-cons (λ (p : Part). p.factor ≢ zero_ℚ) (part t q) ps (nonzero_when q e) all

pub AllNonzero-with_part : (ps : List Part) (t : Term) (q : ℚ) → AllNonzero ps
    → AllNonzero (with_part ps t q)
unfolding with_part
AllNonzero-with_part [] t q all = AllNonzero-with_factor t q [] all
AllNonzero-with_part (p ∷ ps) t q all =
    let rest = All-tail (λ (p : Part). p.factor ≢ zero_ℚ) p ps all in
    go rest (AllNonzero-with_part ps t q rest) (same_term p.term t)
  where
    go : AllNonzero ps → AllNonzero (with_part ps t q) → (b : Bool)
        → AllNonzero (cond b (with_factor t (p.factor +ℚ q) ps) (p ∷ with_part ps t q))
    go rest later true = AllNonzero-with_factor t (p.factor +ℚ q) ps rest
    go rest later false = All-cons (λ (p : Part). p.factor ≢ zero_ℚ) p (with_part ps t q)
        (All-head (λ (p : Part). p.factor ≢ zero_ℚ) p ps all) later

pub AllNonzero-with_parts : (ps qs : List Part) → AllNonzero ps → AllNonzero (with_parts ps qs)
AllNonzero-with_parts ps [] all = all
AllNonzero-with_parts ps (q ∷ qs) all = AllNonzero-with_parts (with_part ps q.term q.factor) qs
    (AllNonzero-with_part ps q.term q.factor all)

pub AllNonzero-scaled_parts : (ps : List Part) (q : ℚ) → AllNonzero (scaled_parts ps q)
unfolding scaled_parts
AllNonzero-scaled_parts [] q = All-nil (λ (p : Part). p.factor ≢ zero_ℚ)
AllNonzero-scaled_parts (p ∷ ps) q = AllNonzero-with_factor p.term (p.factor *ℚ q)
    (scaled_parts ps q) (AllNonzero-scaled_parts ps q)

-- ---- each term once

pub Apart-with_factor : (t : Term) (q : ℚ) (ps : List Part) → IsNowhere ps t → Apart ps
    → Apart (with_factor t q ps)
unfolding Apart
Apart-with_factor t q ps nowhere apart = go (is_zero q)
  where
    go : (b : Bool) → Apart (cond b ps (part t q ∷ ps))
    go true = apart
    go false = (nowhere, apart)

pub Apart-with_part : (ps : List Part) (t : Term) (q : ℚ) → Apart ps → Apart (with_part ps t q)
unfolding with_part Apart
Apart-with_part [] t q apart = Apart-with_factor t q [] (All-nil (λ (p : Part). p.term ≢ t)) apart
Apart-with_part (p ∷ ps) t q (other, apart) = go (Apart-with_part ps t q apart)
    (same_term p.term t) refl
  where
    go : Apart (with_part ps t q) → (b : Bool) → same_term p.term t ≡ b
        → Apart (cond b (with_factor t (p.factor +ℚ q) ps) (p ∷ with_part ps t q))
    go later true e = Apart-with_factor t (p.factor +ℚ q) ps
        (subst (λ s. IsNowhere ps s) ((same_term-is p.term t).0 e) other) apart
    go later false e = (
      AllTerms-with_part (λ s. s ≢ p.term) ps t q other
          (λ same. not_from_Decides (same_term p.term t) (same_term-is p.term t) e (sym same)),
      later,
    )

pub Apart-with_parts : (ps qs : List Part) → Apart ps → Apart (with_parts ps qs)
Apart-with_parts ps [] apart = apart
Apart-with_parts ps (q ∷ qs) apart = Apart-with_parts (with_part ps q.term q.factor) qs
    (Apart-with_part ps q.term q.factor apart)

pub Apart-scaled_parts : (ps : List Part) (q : ℚ) → Apart ps → Apart (scaled_parts ps q)
unfolding scaled_parts Apart
Apart-scaled_parts [] q apart = apart
Apart-scaled_parts (p ∷ ps) q (other, apart) =
    Apart-with_factor p.term (p.factor *ℚ q) (scaled_parts ps q)
    (AllTerms-scaled_parts (λ s. s ≢ p.term) ps q other) (Apart-scaled_parts ps q apart)
