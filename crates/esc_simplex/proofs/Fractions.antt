-- Sums and differences of fractions over one denominator.
use Rattle.std.proofs.Common.{◌≡◌, ℕ, ◌*◌, ◌<◌, ℤ, pos, ◌+ℤ◌, ◌*ℤ◌, neg_ℤ, sym, ap, ◌∙◌, arith, mul-pos}
use Rattle.std.proofs.lemmas.Int.{ints}
use Rattle.esc_frac.specs.Integers.{itself, natural, of_sum, of_product, same_difference}
use Rattle.esc_frac.specs.Rational.{ratio, whole, ◌+ℚ◌, neg_ℚ, ◌*ℚ◌}
use Rattle.esc_frac.specs.RationalLaws.{same_ratio, ratio-parts}
use Rattle.esc_frac.proofs.FieldLaws.{ratio-+ℚ-ratio, ratio-*ℚ-ratio, neg_ℚ_unique, ratio-zero}

sum_cross : (n m : ℤ) (d : ℕ) → (n *ℤ pos d +ℤ m *ℤ pos d) *ℤ pos d ≡ (n +ℤ m) *ℤ pos (d * d)
sum_cross n m d =
    same_difference
    (of_product (of_sum (of_product (itself n) (natural d)) (of_product (itself m) (natural d)))
    (natural d))
    (of_product (of_sum (itself n) (itself m)) (natural (d * d)))
    (omega arith)

pub ratio-+ : (n m : ℤ) (d : ℕ) → 0 < d → ratio (n +ℤ m) d ≡ ratio n d +ℚ ratio m d
ratio-+ n m d some =
    sym (ratio-+ℚ-ratio n d m d some some ∙ same_ratio _ (d * d) _ d (mul-pos some some) some
    (sum_cross n m d))

pub ratio-whole : (n : ℤ) → ratio n 1 ≡ whole n
ratio-whole n = ratio-parts (whole n)

scaled_cross : (c n : ℤ) (d : ℕ) → (c *ℤ n) *ℤ pos d ≡ (c *ℤ n) *ℤ pos (1 * d)
scaled_cross c n d = ap (λ (k : ℕ). (c *ℤ n) *ℤ pos k) (omega arith)

-- a whole multiple
pub ratio-scaled : (c n : ℤ) (d : ℕ) → 0 < d → ratio (c *ℤ n) d ≡ whole c *ℚ ratio n d
ratio-scaled c n d some =
    ap (ratio (c *ℤ n)) (one d) ∙ sym (ratio-*ℚ-ratio c 1 n d (omega arith) some)
    ∙ ap (λ x. x *ℚ ratio n d) (ratio-whole c)
  where
    one : (k : ℕ) → k ≡ 1 * k
    one k = omega arith

-- a whole number over the denominator
pub ratio-full : (c : ℤ) (d : ℕ) → 0 < d → ratio (pos d *ℤ c) d ≡ whole c
ratio-full c d some = same_ratio (pos d *ℤ c) d c 1 some (omega arith) cross ∙ ratio-whole c
  where
    cross : (pos d *ℤ c) *ℤ pos 1 ≡ c *ℤ pos d
    cross = same_difference (of_product (of_product (natural d) (itself c)) (natural 1))
        (of_product (itself c) (natural d)) (omega arith)

pub ratio-neg : (n : ℤ) (d : ℕ) → 0 < d → ratio (neg_ℤ n) d ≡ neg_ℚ (ratio n d)
ratio-neg n d some = neg_ℚ_unique (ratio n d) (ratio (neg_ℤ n) d) (sym (ratio-+ n (neg_ℤ n) d some)
    ∙ ap (λ z. ratio z d) (none n) ∙ ratio-zero d some)
  where
    none : (z : ℤ) → z +ℤ neg_ℤ z ≡ pos 0
    none z = omega (arith, ints)

-- multiplied through
pub ratio-through : (n : ℤ) (d k : ℕ) → 0 < d → 0 < k → ratio (n *ℤ pos k) (d * k) ≡ ratio n d
ratio-through n d k some also = same_ratio (n *ℤ pos k) (d * k) n d (mul-pos some also) some cross
  where
    cross : (n *ℤ pos k) *ℤ pos d ≡ n *ℤ pos (d * k)
    cross = same_difference (of_product (of_product (itself n) (natural k)) (natural d))
        (of_product (itself n) (natural (d * k))) (omega arith)
