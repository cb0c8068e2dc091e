-- What lifting an unknown shows of the assignments that are allowed.
use Rattle.std.proofs.Common.{ℕ, Bool, true, false, Result, Ok, Err, IfOk, IfErr, refl, subst, arith}
use Rattle.std.specs.List.{Contains}
use Rattle.esc_frac.specs.Rational.{zero_ℚ, ◌≤ℚ◌, ◌<ℚ◌}
use Rattle.esc_frac.proofs.OrderLaws.{≤ℚ_trans, <ℚ-not}
use Rattle.esc_tableau.specs.Run.{IsGreatest}
use Rattle.esc_tableau.specs.Table.{Table, sample}
use Rattle.esc_tableau.proofs.PivotLaws.{IsWithin-same}
use Rattle.esc_cover.specs.Assignment.{Assignment}
use Rattle.esc_simplex.specs.Calls.{IsAbove, LiftShows}
use Rattle.esc_simplex.specs.Barred.{IsBarred}
use Rattle.esc_simplex.specs.Senses.{sense_value}
use Rattle.esc_simplex.specs.Steps.{KeepsSystem, LiftEnds, MaximisingStops}
use Rattle.esc_simplex.specs.View.{IsSimplex, sense_in, senses_in}
use Rattle.esc_simplex.specs.declared.simplex.Simplex.{Simplex}
use Rattle.esc_simplex.specs.declared.stop.Stop.{Stop}
use Rattle.esc_simplex.proofs.Barring.{barred_maximising}
use Rattle.esc_simplex.proofs.Keeping.{keeps_itself}
use Rattle.esc_simplex.proofs.SystemLaws.{keeps_back}
use Rattle.esc_simplex.proofs.Kept.{simplex_kept}
use Rattle.esc_simplex.proofs.Points.{allowed_at, used_in_rows, fraction_up, numerator_up, point_of, sample_allowed, solves, used_made, within_from}

-- at a sample that is not negative it is at least 0
pub above_in_sample : (v : Simplex) (h : IsSimplex v) (u : ℕ) → Contains v.unknowns u
    → zero_ℚ ≤ℚ sample v.tableau u → (x : Assignment) × IsAbove v u x
above_in_sample v h u used up =
    let found = sample_allowed v h in (
      found.0,
      (
        found.1,
        numerator_up (sense_value found.0 (sense_in v u)) found.0.denominator
            found.0.positive (subst (λ q. zero_ℚ ≤ℚ q) (found.2 u (used_made v h u used)) up),
      ),
    )

-- where its greatest value is negative, it is at least 0 nowhere
pub nowhere_above : (v : Simplex) (h : IsSimplex v) (u : ℕ) → Contains v.unknowns u → (t : Table)
    → KeepsSystem v.tableau t → (sample t u <ℚ zero_ℚ) × IsGreatest t u → (x : Assignment)
    → IsAbove v u x → ⊥
nowhere_above v h u used t kept below x above =
    let p = point_of (senses_in v) x in
    let low : p u ≤ℚ sample t u = below.1.greatest p ((kept.same.solutions p).0 (solves v h x))
    (IsWithin-same v.tableau t p kept.same (within_from v h p x (λ w b. refl) above.0)) in
    let up : zero_ℚ ≤ℚ p u = fraction_up (sense_value x (sense_in v u)) x.denominator x.positive
    above.1 in
    (<ℚ-not (sample t u) zero_ℚ).0 below.0 (≤ℚ_trans zero_ℚ (p u) (sample t u) up low)

-- a restricted unknown is at least 0 wherever the restrictions hold
pub above_restricted : (v : Simplex) (h : IsSimplex v) (u : ℕ) → Contains v.restricted u
    → (x : Assignment) × IsAbove v u x
above_restricted v h u there = let found = sample_allowed v h
    in (found.0, (found.1, allowed_at v h u there found.0 found.1))

-- so lifting shows
pub lift_shows : {E : Type 0} (v : Simplex) (h : IsSimplex v) (u : ℕ) → Contains v.unknowns u
    → (t : Table) → KeepsSystem v.tableau t → (r : Result Bool E) → IfOk r (LiftEnds t u)
    → IfOk r (LiftShows v (record v { tableau = t }) u)
lift_shows v h u used t kept (Ok true) up = (
  up,
  above_in_sample (record v { tableau = t })
      (simplex_kept v h t kept) u used up,
)
lift_shows v h u used t kept (Ok false) below = nowhere_above v h u used t kept below
lift_shows v h u used t kept (Err e) ends = tt

pub lift_barred : {V : Type 0} (v : Simplex) (h : IsSimplex v) (u : ℕ) → Contains v.unknowns u
    → (t : Table) → KeepsSystem v.tableau t → (r : Result V Stop)
    → IfErr r (MaximisingStops v.tableau t u v.limit)
    → IfErr r (IsBarred (record v { tableau = t }) (λ s. ⊥) (λ g. ⊥))
lift_barred v h u used t kept (Ok x) stops = tt
lift_barred v h u used t kept (Err s) stops =
    barred_maximising (record v { tableau = t }) (λ s. ⊥) (λ g. ⊥) (simplex_kept v h t kept)
    v.tableau u v.limit
    (keeps_back v.tableau t h.table h.within kept.same)
    (keeps_itself t t refl kept.table kept.within)
    (omega (arith, kept.same.size, used_in_rows v h u used)) refl s stops
