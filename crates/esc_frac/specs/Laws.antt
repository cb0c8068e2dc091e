-- What holds of rational numbers: they are an ordered field that holds the whole numbers.
use Rattle.std.specs.Prelude.{◌≡◌, ◌≢◌, ◌⊎◌, ◌↔◌, ℤ, pos, ◌+ℤ◌, ◌-ℤ◌, ◌*ℤ◌, neg_ℤ, ◌≤ℤ◌}
use Rattle.esc_frac.specs.Fits.{Fits, over_common, common_den, DifferenceFits}
use Rattle.esc_frac.specs.Rational.{ℚ, whole, zero_ℚ, one_ℚ, ◌+ℚ◌, neg_ℚ, ◌*ℚ◌, inverse_ℚ, ◌≤ℚ◌, ◌<ℚ◌}

pub record IsField : Type 0 where
  pub sum_turned : (p q : ℚ) → p +ℚ q ≡ q +ℚ p
  pub sum_grouped : (p q r : ℚ) → p +ℚ q +ℚ r ≡ p +ℚ (q +ℚ r)
  pub sum_with_zero : (p : ℚ) → p +ℚ zero_ℚ ≡ p
  pub sum_with_negative : (p : ℚ) → p +ℚ neg_ℚ p ≡ zero_ℚ
  pub product_turned : (p q : ℚ) → p *ℚ q ≡ q *ℚ p
  pub product_grouped : (p q r : ℚ) → p *ℚ q *ℚ r ≡ p *ℚ (q *ℚ r)
  pub product_with_one : (p : ℚ) → p *ℚ one_ℚ ≡ p
  pub product_with_inverse : (p : ℚ) → p.num ≢ pos 0 → p *ℚ inverse_ℚ p ≡ one_ℚ
  pub distributed : (p q r : ℚ) → p *ℚ (q +ℚ r) ≡ p *ℚ q +ℚ p *ℚ r
  pub zero_is_not_one : zero_ℚ ≢ one_ℚ

pub record IsOrdered : Type 0 where
  pub reflexive : (p : ℚ) → p ≤ℚ p
  pub antisymmetric : (p q : ℚ) → p ≤ℚ q → q ≤ℚ p → p ≡ q
  pub transitive : (p q r : ℚ) → p ≤ℚ q → q ≤ℚ r → p ≤ℚ r
  pub total : (p q : ℚ) → (p ≤ℚ q) ⊎ (q <ℚ p)
  pub strict : (p q : ℚ) → p <ℚ q ↔ ¬ (q ≤ℚ p)
  -- a summand keeps the order, and a factor that is not negative
  pub sum : (p q r : ℚ) → p ≤ℚ q → p +ℚ r ≤ℚ q +ℚ r
  pub product : (p q r : ℚ) → p ≤ℚ q → zero_ℚ ≤ℚ r → p *ℚ r ≤ℚ q *ℚ r

-- whole numbers are added, multiplied and ordered as ever
pub record KeepsWhole : Type 0 where
  pub same : (m n : ℤ) → whole m ≡ whole n → m ≡ n
  pub sum : (m n : ℤ) → whole m +ℚ whole n ≡ whole (m +ℤ n)
  pub product : (m n : ℤ) → whole m *ℚ whole n ≡ whole (m *ℤ n)
  pub negative : (n : ℤ) → neg_ℚ (whole n) ≡ whole (neg_ℤ n)
  pub order : (m n : ℤ) → whole m ≤ℚ whole n ↔ (m ≤ℤ n)

-- what must fit to subtract: the two numerators over the common denominator, their difference, and
-- that denominator
pub record DifferenceStepsFit (p q : ℚ) : Type 0 where
  pub first : Fits (over_common p q)
  pub second : Fits (over_common q p)
  pub difference : Fits (over_common p q -ℤ over_common q p)
  pub den : Fits (pos (common_den p q))

abbrev pub DifferenceFitsByStep : Type 0
DifferenceFitsByStep = (p q : ℚ) → DifferenceFits p q ↔ DifferenceStepsFit p q
