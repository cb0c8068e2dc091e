-- The points of assignments, and what the restrictions allow.
use Rattle.std.proofs.Common.{◌≡◌, ℕ, ◌<◌, ℤ, pos, ◌≤ℤ◌, ◌*ℤ◌, List, length, get_or, refl, sym, ap, ◌∙◌, subst, arith}
use Rattle.std.proofs.lemmas.Int.{ints}
use Rattle.std.proofs.lemmas.List.{get_or-map, get_or_default, length-map}
use Rattle.std.proofs.lemmas.List.Elements.{All-contains}
use Rattle.std.specs.List.{Contains}
use Rattle.esc_frac.specs.Rational.{ratio, zero_ℚ, ◌≤ℚ◌}
use Rattle.esc_frac.proofs.OrderLaws.{ratio-≤ℚ-ratio, num_of_zero-≤ℚ}
use Rattle.esc_frac.specs.Integers.{*ℤ-≤ℤ, *ℤ-≤ℤ_cancel}
use Rattle.esc_frac.specs.RationalLaws.{den_pos, ratio-cross}
use Rattle.esc_frac.proofs.FieldLaws.{ratio-zero}
use Rattle.esc_rows.specs.Rows.{Point}
use Rattle.esc_tableau.specs.Table.{IsSolution, IsWithin, sample, size}
use Rattle.esc_tableau.proofs.SampleLaws.{IsSolution-sample}
use Rattle.esc_cover.specs.Assignment.{Assignment}
use Rattle.esc_simplex.specs.Calls.{SampleIsAllowed}
use Rattle.esc_simplex.specs.Senses.{IsPointOf, Sense, sense_at, sense_fraction, sense_of, sense_value, senses_of}
use Rattle.esc_simplex.specs.View.{Allows, IsSimplex, restrictions_in, sense_in, senses_in}
use Rattle.esc_simplex.specs.declared.simplex.Simplex.{Simplex}

-- ---- the sign of a fraction

pub fraction_up : (n : ℤ) (d : ℕ) → 0 < d → pos 0 ≤ℤ n → zero_ℚ ≤ℚ ratio n d
fraction_up n d some h = subst (λ x. x ≤ℚ ratio n d) (ratio-zero d some)
    (ratio-≤ℚ-ratio (pos 0) d n d some some (*ℤ-≤ℤ (pos 0) n d h))

pub numerator_up : (n : ℤ) (d : ℕ) → 0 < d → zero_ℚ ≤ℚ ratio n d → pos 0 ≤ℤ n
numerator_up n d some h =
    *ℤ-≤ℤ_cancel (pos 0) n (ratio n d).den (den_pos (ratio n d))
    (subst (λ z. z ≤ℤ (n *ℤ pos (ratio n d).den)) (none d (ratio n d).den)
    (subst (λ z. (pos 0 *ℤ pos d) ≤ℤ z) (ratio-cross n d some)
    (*ℤ-≤ℤ (pos 0) (ratio n d).num d (num_of_zero-≤ℚ (ratio n d) h))))
  where
    none : (a b : ℕ) → pos 0 *ℤ pos a ≡ pos 0 *ℤ pos b
    none a b = omega (arith, ints)

-- ---- points

-- the point of an assignment
abbrev pub point_of : List Sense → Assignment → Point
point_of senses x u = sense_fraction x (sense_at senses u)

module _ (v : Simplex) (h : IsSimplex v) where
  many : length (senses_in v) ≡ length v.made
  unfolding senses_of
  many = length-map v.made (sense_of v.made)

  used_below : (u : ℕ) → Contains v.unknowns u → u < length (senses_in v)
  used_below u c = omega (
    arith,
    many,
    All-contains (λ w. w < length v.made) v.unknowns u
        h.listed c,
  )

  pub used_made : (u : ℕ) → Contains v.unknowns u → u < length v.made
  used_made u c = All-contains (λ w. w < length v.made) v.unknowns u h.listed c

  pub used_in_rows : (u : ℕ) → Contains v.unknowns u → u < size v.tableau
  used_in_rows u c = omega (arith, h.rows.size, used_below u c)

  restricted_below : (u : ℕ) → Contains v.restricted u → u < length (senses_in v)
  restricted_below u c = used_below u (All-contains (Contains v.unknowns) v.restricted u
      h.restricted c)

  -- a point within the restrictions is that of an allowed assignment
  pub allows_from : (p : Point) (x : Assignment) → IsPointOf (senses_in v) x p
      → IsWithin v.tableau p → Allows v x
  allows_from p x is within k d inside =
      let inside' : k < length v.restricted = omega
      (arith, inside, length-map v.restricted (sense_in v)) in
      let u : ℕ = get_or v.restricted k 0 in
      let there : Contains v.restricted u = (k, inside', get_or_default v.restricted k u 0 inside')
      in
      let up : zero_ℚ ≤ℚ sense_fraction x (sense_in v u) = subst (λ q. zero_ℚ ≤ℚ q)
      (is u (restricted_below u there)) (within u ((h.marked u).1 there)) in
      subst (λ s. pos 0 ≤ℤ sense_value x s) (sym (get_or-map (sense_in v) v.restricted k 0 d
      inside'))
      (numerator_up (sense_value x (sense_in v u)) x.denominator x.positive up)

  pub allowed_at : (u : ℕ) → Contains v.restricted u → (x : Assignment) → Allows v x
      → pos 0 ≤ℤ sense_value x (sense_in v u)
  allowed_at u there x allowed = All-contains (λ s. pos 0 ≤ℤ sense_value x s) (restrictions_in v)
      (sense_in v u) allowed (
        there.0,
        omega (arith, there.1, length-map v.restricted (sense_in v)),
        get_or-map
            (sense_in v) v.restricted there.0 u (sense_in v u) there.1 ∙ ap (sense_in v) there.2,
      )

  pub within_from : (p : Point) (x : Assignment) → IsPointOf (senses_in v) x p → Allows v x
      → IsWithin v.tableau p
  within_from p x is allowed u marked =
      let there : Contains v.restricted u = (h.marked u).0 marked in
      subst (λ q. zero_ℚ ≤ℚ q) (sym (is u (restricted_below u there)))
      (fraction_up (sense_value x (sense_in v u)) x.denominator x.positive
      (allowed_at u there x allowed))

  pub solves : (x : Assignment) → IsSolution v.tableau (point_of (senses_in v) x)
  solves x = h.rows.complete (point_of (senses_in v) x) x (λ u b. refl)

  -- the sample is the point of one
  pub sample_allowed : SampleIsAllowed v
  sample_allowed =
      let found = h.rows.sound (sample v.tableau) (IsSolution-sample v.tableau h.table) in (
        found.0,
        allows_from (sample v.tableau) found.0 found.1 h.within,
        λ u b. found.1 u
            (omega (arith, b, many)),
      )
