-- Whole numbers among the rational ones, and the parts of a negative.
use Rattle.std.proofs.Common.{◌≡◌, ◌↔◌, ◌*◌, ◌/◌, ◌<◌, ◌^◌, ℕ, ℤ, pos, ◌+ℤ◌, ◌-ℤ◌, ◌*ℤ◌, neg_ℤ, ◌≤ℤ◌, sym, ap, ap₂, ◌∙◌, subst, arith}
use Rattle.std.proofs.lemmas.Int.{ints}
use Rattle.esc_frac.specs.Gcd.{gcd}
use Rattle.esc_frac.specs.Integers.{neg_ℤ-*ℤ}
use Rattle.esc_frac.specs.Fits.{Fits, over_common, common_den, DifferenceFits}
use Rattle.esc_frac.specs.Laws.{DifferenceStepsFit}
use Rattle.esc_frac.specs.Rational.{ℚ, whole, ratio, ◌+ℚ◌, neg_ℚ, ◌*ℚ◌, ◌≤ℚ◌}
use Rattle.esc_frac.specs.RationalLaws.{ratio-parts}
use Rattle.esc_frac.proofs.SignLemmas.{unsigned_abs-neg}

pub whole_same : (m n : ℤ) → whole m ≡ whole n → m ≡ n
whole_same m n e = ap (λ (q : ℚ). q.num) e

pub whole-+ℚ : (m n : ℤ) → whole m +ℚ whole n ≡ whole (m +ℤ n)
unfolding ◌+ℚ◌
whole-+ℚ m n = ap₂ ratio (omega (arith, ints)) (omega arith) ∙ ratio-parts (whole (m +ℤ n))

pub whole-*ℚ : (m n : ℤ) → whole m *ℚ whole n ≡ whole (m *ℤ n)
unfolding ◌*ℚ◌
whole-*ℚ m n = ap (λ (d : ℕ). ratio (m *ℤ n) d) (omega arith) ∙ ratio-parts (whole (m *ℤ n))

pub neg_ℚ-whole : (n : ℤ) → neg_ℚ (whole n) ≡ whole (neg_ℤ n)
unfolding neg_ℚ
neg_ℚ-whole n = ratio-parts (whole (neg_ℤ n))

pub whole-≤ℚ : (m n : ℤ) → whole m ≤ℚ whole n ↔ (m ≤ℤ n)
whole-≤ℚ m n = (λ h. omega (arith, ints), λ h. omega (arith, ints))

-- the negative with its numerator and its denominator
negated : ℚ → ℚ
negated q = record {
  num = neg_ℤ q.num;
  den = q.den;
  lowest
      = (q.lowest.0, ap (λ (n : ℕ). gcd n q.den) (unsigned_abs-neg q.num) ∙ q.lowest.1);
}

neg_ℚ-parts : (q : ℚ) → neg_ℚ q ≡ negated q
unfolding neg_ℚ negated
neg_ℚ-parts q = ratio-parts (negated q)

pub neg_ℚ-num : (q : ℚ) → (neg_ℚ q).num ≡ neg_ℤ q.num
unfolding negated
neg_ℚ-num q = ap (λ (r : ℚ). r.num) (neg_ℚ-parts q)

pub neg_ℚ-den : (q : ℚ) → (neg_ℚ q).den ≡ q.den
unfolding negated
neg_ℚ-den q = ap (λ (r : ℚ). r.den) (neg_ℚ-parts q)

over_common-neg_ℚ : (p q : ℚ) → over_common (neg_ℚ q) p ≡ neg_ℤ (over_common q p)
over_common-neg_ℚ p q =
    ap₂ (λ (n : ℤ) (d : ℕ). n *ℤ pos (p.den / gcd d p.den)) (neg_ℚ-num q) (neg_ℚ-den q)
    ∙ neg_ℤ-*ℤ q.num (pos (p.den / gcd q.den p.den))

over_common-to_neg_ℚ : (p q : ℚ) → over_common p (neg_ℚ q) ≡ over_common p q
over_common-to_neg_ℚ p q = ap (λ (d : ℕ). p.num *ℤ pos (d / gcd p.den d)) (neg_ℚ-den q)

common_den-neg_ℚ : (p q : ℚ) → common_den p (neg_ℚ q) ≡ common_den p q
common_den-neg_ℚ p q = ap (λ (d : ℕ). p.den * (d / gcd p.den d)) (neg_ℚ-den q)

Fits-neg : (z : ℤ) → Fits z → Fits (neg_ℤ z)
Fits-neg z h = subst (λ (n : ℕ). n < 2 ^ 127) (sym (unsigned_abs-neg z)) h

Fits-from_neg : (z : ℤ) → Fits (neg_ℤ z) → Fits z
Fits-from_neg z h = subst (λ (n : ℕ). n < 2 ^ 127) (unsigned_abs-neg z) h

sum_is : (p q : ℚ) → over_common p (neg_ℚ q) +ℤ over_common (neg_ℚ q) p
    ≡ over_common p q -ℤ over_common q p
sum_is p q = ap₂ (λ x y. x +ℤ y) (over_common-to_neg_ℚ p q) (over_common-neg_ℚ p q)
    ∙ plus_neg (over_common p q) (over_common q p)
  where
    plus_neg : (x y : ℤ) → x +ℤ neg_ℤ y ≡ x -ℤ y
    plus_neg x y = omega (arith, ints)

pub difference_by_step : (p q : ℚ) → DifferenceFits p q ↔ DifferenceStepsFit p q
difference_by_step p q = (
  λ h. record {
    first = subst Fits (over_common-to_neg_ℚ p q) h.first;
    second = Fits-from_neg (over_common q p) (subst Fits (over_common-neg_ℚ p q) h.second);
    difference = subst Fits (sum_is p q) h.sum;
    den = subst (λ (d : ℕ). Fits (pos d)) (common_den-neg_ℚ p q) h.den;
  },
  λ h. record {
    first = subst Fits (sym (over_common-to_neg_ℚ p q)) h.first;
    second = subst Fits (sym (over_common-neg_ℚ p q)) (Fits-neg (over_common q p) h.second);
    sum = subst Fits (sym (sum_is p q)) h.difference;
    den = subst (λ (d : ℕ). Fits (pos d)) (sym (common_den-neg_ℚ p q)) h.den;
  },
)
