-- A row is added: what the new unknown stands for, and the solutions then.
use Rattle.std.proofs.Common.{◌≡◌, ◌⊎◌, inl, inr, ℕ, ◌<◌, ◌≤◌, Bool, true, false, cond, ℤ, pos, ◌+ℤ◌, ◌-ℤ◌, ◌*ℤ◌, neg_ℤ, List, [], ◌∷◌, ◌++◌, length, refl, sym, ap, ap₂, ◌∙◌, arith}
use Rattle.std.proofs.lemmas.Bool.{cases_lt}
use Rattle.std.proofs.lemmas.Int.{ints}
use Rattle.std.proofs.lemmas.List.{get_or_append_left, get_or_push, length_push}
use Rattle.esc_frac.specs.Rational.{ℚ, ratio, zero_ℚ, one_ℚ, ◌+ℚ◌, neg_ℚ, ◌*ℚ◌}
use Rattle.esc_frac.proofs.FieldLaws.{+ℚ-zero, *ℚ_comm, *ℚ-one, neg_ℚ-*ℚ, neg_ℚ-zero, ratio-zero}
use Rattle.esc_rows.specs.Rows.{Point}
use Rattle.esc_tableau.specs.Changes.{AddsRow, parts_value}
use Rattle.esc_tableau.specs.Table.{Table}
use Rattle.esc_tableau.specs.declared.changing.Part.{Part}
use Rattle.esc_cover.specs.Assignment.{Assignment, Gap, value}
use Rattle.esc_cover.specs.Counterexample.{fraction}
use Rattle.esc_simplex.specs.Senses.{AreRowsOf, IsPointOf, Sense, gap_of, sense_at, sense_fraction, term}
use Rattle.esc_simplex.specs.Steps.{gap_constant, gap_parts}
use Rattle.esc_simplex.proofs.Fractions.{ratio-+, ratio-neg, ratio-full}

-- ---- one sense more

module _ (senses : List Sense) (s : Sense) where
  pub old_sense : (u : ℕ) → u < length senses → sense_at (senses ++ s ∷ []) u ≡ sense_at senses u
  old_sense u h = get_or_append_left senses (s ∷ []) _ u h

  pub new_sense : sense_at (senses ++ s ∷ []) (length senses) ≡ s
  new_sense = get_or_push senses s _ (length senses) refl

  pub point_less : (x : Assignment) (p : Point) → IsPointOf (senses ++ s ∷ []) x p
      → IsPointOf senses x p
  point_less x p is u h = is u (omega (arith, h, length_push senses s))
      ∙ ap (sense_fraction x) (old_sense u h)

  pub point_last : (x : Assignment) (p : Point) → IsPointOf (senses ++ s ∷ []) x p
      → p (length senses) ≡ sense_fraction x s
  point_last x p is = is (length senses) (omega (arith, length_push senses s))
      ∙ ap (sense_fraction x) new_sense

  pub point_more : (x : Assignment) (p : Point) → IsPointOf senses x p → p (length senses)
      ≡ sense_fraction x s → IsPointOf (senses ++ s ∷ []) x p
  point_more x p is last u h = go (cases_lt u (length senses))
    where
      go : (u < length senses) ⊎ (length senses ≤ u) → p u
          ≡ sense_fraction x (sense_at (senses ++ s ∷ []) u)
      go (inl l) = is u l ∙ ap (sense_fraction x) (sym (old_sense u l))
      go (inr g) =
          let same : u ≡ length senses = omega (arith, g, h, length_push senses s) in
          ap p same ∙ last ∙ ap (sense_fraction x) (sym new_sense)
          ∙ ap (λ (k : ℕ). sense_fraction x (sense_at (senses ++ s ∷ []) k)) (sym same)

-- ---- a row that has the value of what it is made for

pub rows_with_row : (senses : List Sense) (old new : Table) (ps : List Part) (k : ℚ) (s : Sense)
    → AreRowsOf senses old → AddsRow old new ps k
    → ((p : Point) (x : Assignment) → IsPointOf senses x p → parts_value p ps +ℚ k
    ≡ sense_fraction x s) → AreRowsOf (senses ++ s ∷ []) new
rows_with_row senses old new ps k s rows adds whole = record {
  size = omega (arith, adds.size, rows.size, length_push senses s);
  sound = λ p h.
      let both = (adds.solutions p).0 h in
      let found = rows.sound p both.0 in (
        found.0,
        point_more senses s found.0 p found.1 (ap p (sym rows.size) ∙ both.1
            ∙ whole p found.0 found.1),
      );
  complete = λ p x is.
      let less = point_less senses s x p is in
      (adds.solutions p).1 (
        rows.complete p x less,
        ap p rows.size ∙ point_last senses s x p is
            ∙ sym (whole p x less),
      );
}

-- ---- the value of a gap

pub gap_fraction : (x : Assignment) (g : Gap) → sense_fraction x (gap_of g) ≡ fraction x g.upper
    +ℚ neg_ℚ (fraction x g.lower) +ℚ gap_constant g.strict
gap_fraction x g =
    ap (λ z. ratio z x.denominator) (turned (value x g.upper) (value x g.lower)
    (cond g.strict (pos x.denominator) (pos 0)))
    ∙ ratio-+ (value x g.upper +ℤ neg_ℤ (value x g.lower)) _ x.denominator x.positive
    ∙ ap₂ (λ p q. p +ℚ q)
    (ratio-+ (value x g.upper) (neg_ℤ (value x g.lower)) x.denominator x.positive
    ∙ ap (λ q. fraction x g.upper +ℚ q) (ratio-neg (value x g.lower) x.denominator x.positive))
    (ratio-neg (cond g.strict (pos x.denominator) (pos 0)) x.denominator x.positive
    ∙ by_strict g.strict)
  where
    turned : (a b c : ℤ) → a -ℤ b -ℤ c ≡ a +ℤ neg_ℤ b +ℤ neg_ℤ c
    turned a b c = omega (arith, ints)

    full : ratio (pos x.denominator) x.denominator ≡ one_ℚ
    full = ap (λ z. ratio z x.denominator) (times_one (pos x.denominator))
        ∙ ratio-full (pos 1) x.denominator x.positive
      where
        times_one : (z : ℤ) → z ≡ z *ℤ pos 1
        times_one z = omega (arith, ints)

    by_strict : (b : Bool) → neg_ℚ (ratio (cond b (pos x.denominator) (pos 0)) x.denominator)
        ≡ gap_constant b
    by_strict true = ap neg_ℚ full
    by_strict false = ap neg_ℚ (ratio-zero x.denominator x.positive) ∙ neg_ℚ-zero

parts_gap : (a b : ℚ) → one_ℚ *ℚ a +ℚ (neg_ℚ one_ℚ *ℚ b +ℚ zero_ℚ) ≡ a +ℚ neg_ℚ b
parts_gap a b = ap₂ (λ p q. p +ℚ q) (*ℚ_comm one_ℚ a ∙ *ℚ-one a) (+ℚ-zero (neg_ℚ one_ℚ *ℚ b)
    ∙ neg_ℚ-*ℚ one_ℚ b ∙ ap neg_ℚ (*ℚ_comm one_ℚ b ∙ *ℚ-one b))

-- the row of a gap has its value
pub gap_whole : (senses : List Sense) (u w : ℕ) (g : Gap) → u < length senses → sense_at senses u
    ≡ term g.upper → w < length senses → sense_at senses w ≡ term g.lower
    → (p : Point) (x : Assignment) → IsPointOf senses x p → parts_value p (gap_parts u w)
    +ℚ gap_constant g.strict ≡ sense_fraction x (gap_of g)
gap_whole senses u w g upper is_upper lower is_lower p x is =
    ap (λ q. q +ℚ gap_constant g.strict) (parts_gap (p u) (p w)
    ∙ ap₂ (λ a b. a +ℚ neg_ℚ b) (is u upper ∙ ap (sense_fraction x) is_upper) (is w lower
    ∙ ap (sense_fraction x) is_lower))
    ∙ sym (gap_fraction x g)
