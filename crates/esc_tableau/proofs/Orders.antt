-- The order of rational numbers and their signs.
use Rattle.std.proofs.Common.{◌≡◌, ◌≢◌, ℕ, zero, suc, ◌<◌, ◌*◌, ℤ, pos, negsuc, ◌*ℤ◌, neg_ℤ, ◌≤ℤ◌, ◌<ℤ◌, refl, sym, subst, arith, mul-pos}
use Rattle.std.proofs.lemmas.Int.{ints}
use Rattle.esc_frac.specs.Integers.{*ℤ-≤ℤ}
use Rattle.esc_frac.specs.Rational.{ℚ, zero_ℚ, ratio, ◌+ℚ◌, neg_ℚ, ◌*ℚ◌, inverse_ℚ, flipped, ◌≤ℚ◌, ◌<ℚ◌}
use Rattle.esc_frac.specs.RationalLaws.{den_pos}
use Rattle.esc_frac.specs.Sign.{sign_of}
use Rattle.esc_frac.specs.declared.frac.Sign.TheVariants.{Negative, Zero, Positive as Above}
use Rattle.esc_frac.proofs.FieldLaws.{zero-+ℚ, ratio-zero}
use Rattle.esc_frac.proofs.OrderLaws.{≤ℚ_refl, ≤ℚ_trans, ratio-≤ℚ-ratio, ≤ℚ-+ℚ, num_of_zero-≤ℚ}

pub le_from_lt : (p q : ℚ) → p <ℚ q → p ≤ℚ q
le_from_lt p q h = omega (arith, ints)

pub not_below : (p q : ℚ) → p <ℚ q → q ≤ℚ p → ⊥
not_below p q h k = omega (arith, ints)

pub sign_above : (n : ℤ) → sign_of n ≡ Above → pos 0 <ℤ n
sign_above (pos zero) e = cc
sign_above (pos (suc n)) e = omega (arith, ints)
sign_above (negsuc n) e = cc

pub sign_negative : (n : ℤ) → sign_of n ≡ Negative → n <ℤ pos 0
sign_negative (pos zero) e = cc
sign_negative (pos (suc n)) e = cc
sign_negative (negsuc n) e = omega (arith, ints)

pub sign_zero : (n : ℤ) → sign_of n ≡ Zero → n ≡ pos 0
sign_zero (pos zero) e = refl
sign_zero (pos (suc n)) e = cc
sign_zero (negsuc n) e = cc

pub sign_of-nonnegative : (n : ℤ) → sign_of n ≢ Negative → pos 0 ≤ℤ n
sign_of-nonnegative (pos n) h = omega (arith, ints)
sign_of-nonnegative (negsuc n) h = absurd (h refl)

-- a sum of numbers that are not negative
pub sum_nonnegative : (p q : ℚ) → zero_ℚ ≤ℚ p → zero_ℚ ≤ℚ q → zero_ℚ ≤ℚ p +ℚ q
sum_nonnegative p q h k =
    ≤ℚ_trans zero_ℚ q (p +ℚ q) k (subst (λ (x : ℚ). x ≤ℚ p +ℚ q) (zero-+ℚ q) (≤ℚ-+ℚ zero_ℚ p q h))

ratio_nonnegative : (n : ℤ) (d : ℕ) → 0 < d → pos 0 ≤ℤ n → zero_ℚ ≤ℚ ratio n d
ratio_nonnegative n d some h =
    subst (λ (x : ℚ). x ≤ℚ ratio n d) (ratio-zero 1 (omega arith))
    (ratio-≤ℚ-ratio (pos 0) 1 n d (omega arith) some (omega (arith, ints)))

product_nonnegative_ℤ : (m n : ℤ) → pos 0 ≤ℤ m → pos 0 ≤ℤ n → pos 0 ≤ℤ (m *ℤ n)
product_nonnegative_ℤ m (pos n) h k = let scaled = *ℤ-≤ℤ (pos 0) m n h in omega (arith, ints)
product_nonnegative_ℤ m (negsuc n) h k = absurd (omega (arith, ints))

-- and a product
pub product_nonnegative : (p q : ℚ) → zero_ℚ ≤ℚ p → zero_ℚ ≤ℚ q → zero_ℚ ≤ℚ p *ℚ q
unfolding ◌*ℚ◌
product_nonnegative p q h k =
    ratio_nonnegative (p.num *ℤ q.num) (p.den * q.den) (mul-pos (den_pos p) (den_pos q))
    (product_nonnegative_ℤ p.num q.num (num_of_zero-≤ℚ p h) (num_of_zero-≤ℚ q k))

-- the negative of a number that is not positive
pub negative_nonnegative : (p : ℚ) → p.num ≤ℤ pos 0 → zero_ℚ ≤ℚ neg_ℚ p
unfolding neg_ℚ
negative_nonnegative p h = ratio_nonnegative (neg_ℤ p.num) p.den (den_pos p) (omega (arith, ints))

ratio_none : (z : ℤ) → ratio z 0 ≡ zero_ℚ
unfolding ratio
ratio_none z = refl

flipped_nonnegative : (n : ℤ) (d : ℕ) → 0 < d → pos 0 ≤ℤ n → zero_ℚ ≤ℚ flipped n d
unfolding flipped
flipped_nonnegative (pos zero) d some h = subst (λ (x : ℚ). zero_ℚ ≤ℚ x) (sym (ratio_none (pos d)))
    (≤ℚ_refl zero_ℚ)
flipped_nonnegative (pos (suc n)) d some h = ratio_nonnegative (pos d) (suc n) (omega arith)
    (omega (arith, ints))
flipped_nonnegative (negsuc n) d some h = absurd (omega (arith, ints))

-- and the inverse of one that is not negative
pub inverse_nonnegative : (p : ℚ) → zero_ℚ ≤ℚ p → zero_ℚ ≤ℚ inverse_ℚ p
unfolding inverse_ℚ
inverse_nonnegative p h = flipped_nonnegative p.num p.den (den_pos p) (num_of_zero-≤ℚ p h)
