-- Where no greatest common divisor is to be looked for: whole numbers, equal denominators, and the
-- product of parts that share nothing.
use Rattle.std.proofs.Common.{◌≡◌, ℕ, ◌*◌, ◌/◌, ◌<◌, ℤ, pos, ◌*ℤ◌, int_div, unsigned_abs, sym, ap, ◌∙◌, subst, subst₂, arith, mul-pos, mul-one}
use Rattle.std.specs.Int.{◌∣◌}
use Rattle.std.proofs.Math.Nat.{div-one, div_self, dvd-mul_left, eq-one_of_dvd-one, mul-div_cancel'}
use Rattle.std.proofs.lemmas.Nat.Gcd.{dvd_refl, dvd_trans, same_from_IsGcd}
use Rattle.std.proofs.lemmas.Int.{ints, unsigned_abs-mul}
use Rattle.esc_frac.specs.Gcd.{gcd, IsLowest}
use Rattle.esc_frac.specs.GcdLaws.{IsGcd-gcd, gcd-dvd_left, gcd-dvd_right, dvd_of_coprime, gcd_comm, gcd-quotients}
use Rattle.esc_frac.specs.Lowest.{IsLowest-whole, unsigned_abs-int_div, int_div-mul_cancel}
use Rattle.esc_frac.specs.Fits.{Fits, over_common, common_den, reduced_num, reduced_den}
use Rattle.esc_frac.specs.Rational.{ℚ}
use Rattle.esc_frac.specs.RationalLaws.{den_pos}
use Rattle.esc_frac.specs.Stored.{IsStored}
use Rattle.esc_frac.proofs.ValueLemmas.{reduced_den_pos}

pub gcd-one : (n : ℤ) → gcd (unsigned_abs n) 1 ≡ 1
gcd-one n = (IsLowest-whole n).1

pub int_div-gcd_one : (z : ℤ) → int_div z (pos (gcd (unsigned_abs z) 1)) ≡ z
int_div-gcd_one z =
    let whole : int_div z (pos (gcd (unsigned_abs z) 1)) *ℤ pos (gcd (unsigned_abs z) 1)
    ≡ z = int_div-mul_cancel z _ (gcd-dvd_left (unsigned_abs z) 1) in
    let one : (q : ℤ) → q *ℤ pos 1 ≡ z → q ≡ z = λ q h. omega (arith, ints, h) in
    one _ (subst (λ (g : ℕ). int_div z (pos (gcd (unsigned_abs z) 1)) *ℤ pos g
    ≡ z) (gcd-one z) whole)

pub div-gcd_one : (n : ℤ) → 1 / gcd (unsigned_abs n) 1 ≡ 1
div-gcd_one n = ap (λ (g : ℕ). 1 / g) (gcd-one n) ∙ div-one 1

-- a number shares the whole of itself with itself
pub div-gcd_self : (d : ℕ) → 0 < d → d / gcd d d ≡ 1
div-gcd_self d some =
    let self : gcd d d ≡ d = same_from_IsGcd d d _ _ (IsGcd-gcd d d)
    (dvd_refl d, dvd_refl d, λ c h k. h) in
    ap (λ (g : ℕ). d / g) self ∙ div_self some

-- with equal denominators the numerators are over the common one
pub over_common-same : (p q : ℚ) → p.den ≡ q.den → over_common p q ≡ p.num
over_common-same p q e =
    let one : q.den / gcd p.den q.den ≡ 1 = ap (λ (d : ℕ). q.den / gcd d q.den) e
    ∙ div-gcd_self q.den (den_pos q) in
    ap (λ (n : ℕ). p.num *ℤ pos n) one ∙ omega (arith, ints)

pub common_den-same : (p q : ℚ) → p.den ≡ q.den → common_den p q ≡ p.den
common_den-same p q e =
    let one : q.den / gcd p.den q.den ≡ 1 = ap (λ (d : ℕ). q.den / gcd d q.den) e
    ∙ div-gcd_self q.den (den_pos q) in
    ap (λ (n : ℕ). p.den * n) one ∙ mul-one p.den

-- ---- parts that share nothing

coprime_of_dvd : (a b c d : ℕ) → gcd a b ≡ 1 → c ∣ a → d ∣ b → gcd c d ≡ 1
coprime_of_dvd a b c d e left right =
    eq-one_of_dvd-one (subst (λ (n : ℕ). gcd c d ∣ n) e
    ((IsGcd-gcd a b).2 (gcd c d) (dvd_trans _ (gcd-dvd_left c d) left)
    (dvd_trans _ (gcd-dvd_right c d) right)))

coprime-mul : (a b c : ℕ) → gcd a c ≡ 1 → gcd b c ≡ 1 → gcd (a * b) c ≡ 1
coprime-mul a b c e f =
    let g : ℕ = gcd (a * b) c in
    let in_c : g ∣ c = gcd-dvd_right (a * b) c in
    let apart : gcd b g ≡ 1 = coprime_of_dvd b c b g f (dvd_refl b) in_c in
    let in_a : g ∣ a = dvd_of_coprime b g a apart (gcd-dvd_left (a * b) c) in
    eq-one_of_dvd-one (subst (λ (n : ℕ). g ∣ n) e ((IsGcd-gcd a c).2 g in_a in_c))

coprime-products : (a b c d : ℕ) → gcd a c ≡ 1 → gcd a d ≡ 1 → gcd b c ≡ 1 → gcd b d ≡ 1
    → gcd (a * b) (c * d) ≡ 1
coprime-products a b c d ac ad bc bd =
    let turned : (n m : ℕ) → gcd n m ≡ 1 → gcd m n ≡ 1 = λ n m e. gcd_comm m n ∙ e in
    turned (c * d) (a * b) (coprime-mul c d (a * b)
    (turned (a * b) c (coprime-mul a b c ac bc))
    (turned (a * b) d (coprime-mul a b d ad bd)))

quotient-dvd : (n g : ℕ) → g ∣ n → n / g ∣ n
quotient-dvd n g h = subst (λ (m : ℕ). n / g ∣ m) (mul-div_cancel' g h) (dvd-mul_left (n / g) g)

-- the product of the reduced parts is in lowest terms
pub IsLowest-reduced : (p q : ℚ) → IsLowest (reduced_num p q *ℤ reduced_num q p)
    (reduced_den q p * reduced_den p q)
IsLowest-reduced p q =
    let a : ℕ = unsigned_abs p.num in
    let c : ℕ = unsigned_abs q.num in
    let left : a / gcd a q.den ∣ a = quotient-dvd a _ (gcd-dvd_left a q.den) in
    let right : c / gcd c p.den ∣ c = quotient-dvd c _ (gcd-dvd_left c p.den) in
    let under : reduced_den q p ∣ p.den = quotient-dvd p.den _ (gcd-dvd_right c p.den) in
    let beside : reduced_den p q ∣ q.den = quotient-dvd q.den _ (gcd-dvd_right a q.den) in
    let parts : gcd (a / gcd a q.den * (c / gcd c p.den)) (reduced_den q p * reduced_den p q) ≡ 1 =
    coprime-products _ _ _ _
    (coprime_of_dvd a p.den _ _ p.lowest.1 left under)
    (gcd-quotients a q.den (den_pos q))
    (gcd-quotients c p.den (den_pos p))
    (coprime_of_dvd c q.den _ _ q.lowest.1 right beside) in
    let size : unsigned_abs (reduced_num p q *ℤ reduced_num q p)
    ≡ a / gcd a q.den * (c / gcd c p.den) =
    unsigned_abs-mul (reduced_num p q) (reduced_num q p)
    ∙ ap (λ (n : ℕ). n * unsigned_abs (reduced_num q p)) (unsigned_abs-int_div p.num (gcd a q.den))
    ∙ ap (λ (n : ℕ). a / gcd a q.den * n) (unsigned_abs-int_div q.num (gcd c p.den)) in (
      mul-pos (reduced_den_pos q p) (reduced_den_pos p q),
      ap
          (λ (n : ℕ). gcd n (reduced_den q p * reduced_den p q)) size ∙ parts,
    )

pub IsStored-reduced : (p q : ℚ) (n d : ℤ) → Fits (reduced_num p q *ℤ reduced_num q p)
    → Fits (pos (reduced_den q p * reduced_den p q)) → n ≡ reduced_num p q *ℤ reduced_num q p → d
    ≡ pos (reduced_den q p * reduced_den p q) → IsStored n d
IsStored-reduced p q n d num den e f = subst₂ IsStored (sym e) (sym f) (record {
  num_fits = num;
  den_fits = den;
  positive = let some = mul-pos (reduced_den_pos q p) (reduced_den_pos p q)
      in omega (arith, ints, some);
  lowest = IsLowest-reduced p q;
})
