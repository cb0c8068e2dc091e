-- Whole numbers that are small can be added and multiplied, so that the row of a gap of numerals
-- can be made.
use Rattle.std.proofs.Common.{◌≡◌, ℕ, ◌<◌, ◌/◌, ◌*◌, ◌^◌, ℤ, pos, neg_ℤ, ◌+ℤ◌, ◌*ℤ◌, Bool, true}
use Rattle.std.proofs.Common.{false, cond, nat_lt, [], length, replicate, refl, sym, ap, subst}
use Rattle.std.proofs.Common.{subst₂, ◌∙◌, lit<, arith}
use Rattle.std.specs.Prelude.{unsigned_abs}
use Rattle.std.proofs.lemmas.Bool.{le-ltb}
use Rattle.std.proofs.lemmas.Int.{ints}
use Rattle.esc_frac.specs.Fits.{Fits, ProductFits, SumFits, over_common}
use Rattle.esc_frac.specs.Gcd.{gcd}
use Rattle.esc_frac.specs.Rational.{ℚ, whole, zero_ℚ, one_ℚ, neg_ℚ, ◌+ℚ◌, ◌*ℚ◌}
use Rattle.esc_frac.proofs.ShortWays.{int_div-gcd_one}
use Rattle.esc_frac.proofs.WholeLaws.{neg_ℚ-whole, whole-*ℚ, whole-+ℚ}
use Rattle.esc_rows.specs.Steps.{StepFits}
use Rattle.esc_tableau.specs.Changes.{PartFits, PartsFit, plus_part, start_sum, sum}
use Rattle.esc_tableau.specs.Table.{Table, column_of, row_constant, row_of}
use Rattle.esc_tableau.specs.declared.changing.Part.{Part}
use Rattle.esc_simplex.specs.Steps.{gap_constant, gap_parts}

-- ---- whole numbers

gcd_one : (n : ℤ) → gcd (unsigned_abs n) 1 ≡ 1
gcd_one n = (whole n).lowest.1

product_fits : (a b : ℤ) → Fits (a *ℤ b) → ProductFits (whole a) (whole b)
product_fits a b fits = record {
  num = subst₂ (λ m n. Fits (m *ℤ n)) (sym (int_div-gcd_one a)) (sym (int_div-gcd_one b)) fits;
  den = subst₂ (λ m n. Fits (pos ((1 / m) * (1 / n)))) (sym (gcd_one b)) (sym (gcd_one a))
      (lit< tt);
}

over_one : (a b : ℤ) → over_common (whole a) (whole b) ≡ a
over_one a b = ap (λ n. a *ℤ pos (1 / n)) (gcd_one (pos 1)) ∙ one a
  where
    one : (m : ℤ) → m *ℤ pos (1 / 1) ≡ m
    one m = omega (arith, ints)

sum_fits : (a b : ℤ) → Fits a → Fits b → Fits (a +ℤ b) → SumFits (whole a) (whole b)
sum_fits a b first second both = record {
  first = subst Fits (sym (over_one a b)) first;
  second = subst Fits (sym (over_one b a)) second;
  sum = subst₂ (λ m n. Fits (m +ℤ n)) (sym (over_one a b)) (sym (over_one b a)) both;
  den = subst (λ n. Fits (pos (1 * (1 / n)))) (sym (gcd_one (pos 1))) (lit< tt);
}

step_fits : (f a b : ℤ) → Fits (f *ℤ b) → Fits a → Fits (a +ℤ f *ℤ b)
    → StepFits (whole f) (whole a) (whole b)
step_fits f a b product first both = record {
  product = product_fits f b product;
  sum = subst (SumFits (whole a)) (sym (whole-*ℚ f b)) (sum_fits a (f *ℤ b) first product both);
}

-- ---- parts of rows without entries

module _ (t : Table) (none : length t.columns ≡ 0) where
  no_own_column : (u : ℕ) → nat_lt (column_of t u) (length t.columns) ≡ false
  no_own_column u = le-ltb (column_of t u) (length t.columns) (omega (arith, none))

  part_fits : (k : ℚ) (p : Part)
      → StepFits p.factor k (row_constant t (row_of t p.unknown)) → PartFits t (sum [] k) p
  part_fits k p fits = record {
    column = λ owns. absurd (omega (arith, none, owns));
    owner = λ past. record { entries = λ j below. absurd (omega (arith, below)); constant = fits };
  }

  after_part : (k : ℚ) (p : Part)
      → plus_part t (sum [] k) p ≡ sum [] (k +ℚ p.factor *ℚ row_constant t (row_of t p.unknown))
  after_part k p =
      ap (λ b. cond b (sum [] k)
      (sum [] (k +ℚ p.factor *ℚ row_constant t (row_of t p.unknown)))) (no_own_column p.unknown)

  start_empty : (k : ℚ) → start_sum t k ≡ sum [] k
  start_empty k = ap (λ n. sum (replicate n zero_ℚ) k) none

  -- the row of a difference, where the sums on the way fit
  difference_fits : (k : ℚ) (z : ℤ) (u w : ℕ) (m n : ℤ) → k ≡ whole z
      → row_constant t (row_of t u) ≡ whole m → row_constant t (row_of t w) ≡ whole n
      → Fits (pos 1 *ℤ m) → Fits z → Fits (z +ℤ pos 1 *ℤ m) → Fits (neg_ℤ (pos 1) *ℤ n)
      → Fits (z +ℤ pos 1 *ℤ m +ℤ neg_ℤ (pos 1) *ℤ n)
      → PartsFit t (start_sum t k) (gap_parts u w)
  difference_fits k z u w m n zs is js fits_m fits_z fits_zm fits_n fits_all =
      let p : Part = record { unknown = u; factor = one_ℚ } in
      let q : Part = record { unknown = w; factor = neg_ℚ one_ℚ } in
      let y = z +ℤ pos 1 *ℤ m in
      let start : start_sum t k ≡ sum [] (whole z) = start_empty k ∙ ap (sum []) zs in
      let next : plus_part t (start_sum t k) p ≡ sum [] (whole y) =
      ap (λ s. plus_part t s p) start
      ∙ (after_part (whole z) p
      ∙ ap (λ c. sum [] (whole z +ℚ one_ℚ *ℚ c)) is
      ∙ ap (λ c. sum [] (whole z +ℚ c)) (whole-*ℚ (pos 1) m)
      ∙ ap (sum []) (whole-+ℚ z (pos 1 *ℤ m))) in (
        subst (λ s. PartFits t s p) (sym start)
            (part_fits (whole z) p (subst (StepFits one_ℚ (whole z)) (sym is)
            (step_fits (pos 1) z m fits_m fits_z fits_zm))),
        (
          subst (λ s. PartFits t s q) (sym next)
              (part_fits (whole y) q (subst₂ (λ f c. StepFits f (whole y) c)
              (sym (neg_ℚ-whole (pos 1))) (sym js)
              (step_fits (neg_ℤ (pos 1)) y n fits_n fits_zm fits_all))),
          tt,
        ),
      )

  -- the row of a gap of small numerals
  pub gap_fits : (strict : Bool) (u w : ℕ) (m n : ℤ) → unsigned_abs m < 2 ^ 64
      → unsigned_abs n < 2 ^ 64 → row_constant t (row_of t u) ≡ whole m
      → row_constant t (row_of t w) ≡ whole n
      → PartsFit t (start_sum t (gap_constant strict)) (gap_parts u w)
  gap_fits true u w m n h k is js =
      difference_fits (neg_ℚ one_ℚ) (neg_ℤ (pos 1)) u w m n (neg_ℚ-whole (pos 1)) is js
      (omega (arith, ints, h)) (omega (arith, ints)) (omega (arith, ints, h))
      (omega (arith, ints, k)) (omega (arith, ints, h, k))
  gap_fits false u w m n h k is js =
      difference_fits zero_ℚ (pos 0) u w m n refl is js (omega (arith, ints, h))
      (omega (arith, ints)) (omega (arith, ints, h)) (omega (arith, ints, k))
      (omega (arith, ints, h, k))
