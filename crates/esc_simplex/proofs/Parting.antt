-- What setting two unknowns against each other shows of the assignments that are allowed.
use Rattle.std.proofs.Common.{◌≡◌, ◌≢◌, ℕ, ◌<◌, Bool, true, false, Result, Ok, Err, IfOk, ℤ, ◌+ℤ◌, neg_ℤ, ◌≤ℤ◌, length, refl, sym, ap, ◌∙◌, subst, arith}
use Rattle.std.proofs.lemmas.Int.{ints}
use Rattle.std.proofs.lemmas.List.{length-map}
use Rattle.esc_frac.specs.Rational.{ratio, zero_ℚ, ◌+ℚ◌, neg_ℚ, ◌≤ℚ◌}
use Rattle.esc_frac.proofs.FieldLaws.{+ℚ-neg_ℚ}
use Rattle.esc_frac.proofs.OrderLaws.{≤ℚ-+ℚ, ≤ℚ_refl, <ℚ-not}
use Rattle.esc_tableau.specs.Moving.{ArePartedIn}
use Rattle.esc_tableau.specs.Table.{sample}
use Rattle.esc_cover.specs.Assignment.{Assignment}
use Rattle.esc_simplex.specs.Calls.{ExceedShows, IsForTerm}
use Rattle.esc_simplex.specs.Keys.{ArePartedAt}
use Rattle.esc_simplex.specs.Senses.{sense_of, sense_value, senses_of}
use Rattle.esc_simplex.specs.Steps.{ExceedEnds}
use Rattle.esc_simplex.specs.View.{Allows, IsSimplex, sense_in, senses_in}
use Rattle.esc_simplex.specs.declared.simplex.Simplex.{Simplex}
use Rattle.esc_simplex.proofs.Fractions.{ratio-+, ratio-neg}
use Rattle.esc_simplex.proofs.Points.{allows_from, numerator_up, point_of, sample_allowed, solves, within_from}

-- fractions over one denominator are ordered as their numerators
ordered : (a b : ℤ) (d : ℕ) → 0 < d → ratio a d ≤ℚ ratio b d → a ≤ℤ b
ordered a b d some h =
    let up : zero_ℚ ≤ℚ ratio (b +ℤ neg_ℤ a) d =
    subst (λ q. zero_ℚ ≤ℚ q) (sym (ratio-+ b (neg_ℤ a) d some
    ∙ ap (λ q. ratio b d +ℚ q) (ratio-neg a d some)))
    (subst (λ q. q ≤ℚ ratio b d +ℚ neg_ℚ (ratio a d)) (+ℚ-neg_ℚ (ratio a d))
    (≤ℚ-+ℚ (ratio a d) (ratio b d) (neg_ℚ (ratio a d)) h)) in
    let least = numerator_up (b +ℤ neg_ℤ a) d some up in
    omega (arith, ints, least)

pub made_there : (v : Simplex) (y : ℕ) → IsForTerm v y → y < length v.made
unfolding senses_of
made_there v y for = omega (arith, for.1.stands.there, length-map v.made (sense_of v.made))

module _ (v : Simplex) (h : IsSimplex v) (u w : ℕ) (upper : IsForTerm v u)
    (lower : IsForTerm v w) where
  shows : (b : Bool) → ExceedEnds v.tableau u w b → ExceedShows v u w b
  shows true ends =
      let found = h.rows.sound ends.0 ends.1 in (
        found.0,
        allows_from v h ends.0 found.0 found.1 ends.2,
        λ same.
            let equal : ends.0 w ≡ ends.0 u = found.1 w lower.1.stands.there
            ∙ ap (λ z. ratio z found.0.denominator) (sym same)
            ∙ sym (found.1 u upper.1.stands.there) in
            (<ℚ-not (ends.0 w) (ends.0 u)).0 ends.3
            (subst (λ q. ends.0 u ≤ℚ q) (sym equal) (≤ℚ_refl (ends.0 u))),
      )
  shows false ends = λ x allowed.
      ordered (sense_value x (sense_in v u)) (sense_value x (sense_in v w)) x.denominator x.positive
      (ends (point_of (senses_in v) x) (solves v h x)
      (within_from v h (point_of (senses_in v) x) x (λ k b. refl) allowed))

  pub exceed_shows : {E : Type 0} (r : Result Bool E) → IfOk r (ExceedEnds v.tableau u w)
      → IfOk r (ExceedShows v u w)
  exceed_shows (Ok b) ends = shows b ends
  exceed_shows (Err e) ends = tt

  -- at any point within the restrictions where they differ
  pub parted_in : ArePartedIn v.tableau u w → ArePartedAt v u w
  parted_in parted =
      let found = h.rows.sound parted.0 parted.1 in (
        found.0,
        allows_from v h parted.0 found.0 found.1 parted.2,
        λ same. parted.3 (found.1 u upper.1.stands.there
            ∙ ap (λ z. ratio z found.0.denominator) same
            ∙ sym (found.1 w lower.1.stands.there)),
      )

  -- at samples that differ
  pub parted_at_sample : sample v.tableau u ≢ sample v.tableau w → (x : Assignment) × Allows v x
      × (sense_value x (sense_in v u) ≢ sense_value x (sense_in v w))
  parted_at_sample other =
      let found = sample_allowed v h in (
        found.0,
        found.1,
        λ same. other (found.2 u (made_there v u upper)
            ∙ ap (λ z. ratio z found.0.denominator) same ∙ sym (found.2 w (made_there v w lower))),
      )
