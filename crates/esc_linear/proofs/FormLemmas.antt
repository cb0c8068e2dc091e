-- The value of sums, negatives and multiples of forms, and that they are normal.
use Rattle.std.proofs.Common.{◌≡◌, sym, ap, ◌∙◌}
use Rattle.esc_frac.specs.Rational.{ℚ, ◌+ℚ◌, neg_ℚ, ◌*ℚ◌}
use Rattle.esc_frac.proofs.FieldLaws.{+ℚ_interchange, neg_ℚ-+ℚ, +ℚ-*ℚ}
use Rattle.esc_linear.specs.declared.form.Form.{Form}
use Rattle.esc_linear.specs.Forms.{plus, negative, scaled}
use Rattle.esc_linear.specs.Laws.{Valuation, weighted, form_value, IsNormal}
use Rattle.esc_linear.proofs.PartLemmas.{weighted-with_parts, weighted-negative, weighted-scaled_parts, AllNonzero-with_parts, AllNonzero-scaled_parts, Apart-with_parts, Apart-scaled_parts}

pub value-plus : (v : Valuation) (a b : Form) → form_value v (plus a b)
    ≡ form_value v a +ℚ form_value v b
value-plus v a b =
    ap (λ x. a.constant +ℚ b.constant +ℚ x) (weighted-with_parts v a.parts b.parts)
    ∙ +ℚ_interchange a.constant b.constant (weighted v a.parts) (weighted v b.parts)

pub value-negative : (v : Valuation) (a : Form) → form_value v (negative a) ≡ neg_ℚ (form_value v a)
value-negative v a =
    ap (λ x. neg_ℚ a.constant +ℚ x) (weighted-negative v a.parts)
    ∙ sym (neg_ℚ-+ℚ a.constant (weighted v a.parts))

pub value-scaled : (v : Valuation) (a : Form) (q : ℚ) → form_value v (scaled a q)
    ≡ form_value v a *ℚ q
value-scaled v a q =
    ap (λ x. a.constant *ℚ q +ℚ x) (weighted-scaled_parts v a.parts q)
    ∙ sym (+ℚ-*ℚ a.constant (weighted v a.parts) q)

pub IsNormal-plus : (a b : Form) → IsNormal a → IsNormal (plus a b)
IsNormal-plus a b h = record {
  apart = Apart-with_parts a.parts b.parts h.apart;
  nonzero = AllNonzero-with_parts a.parts b.parts h.nonzero;
}

pub IsNormal-scaled : (a : Form) (q : ℚ) → IsNormal a → IsNormal (scaled a q)
IsNormal-scaled a q h = record {
  apart = Apart-scaled_parts a.parts q h.apart;
  nonzero = AllNonzero-scaled_parts a.parts q;
}
