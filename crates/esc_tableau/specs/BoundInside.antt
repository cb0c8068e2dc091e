-- The least ratio so far, beside its row.
use Rattle.std.specs.Prelude.{◌≡◌, ℕ, Option, Some, None, if◌then◌else◌}
use Rattle.std.specs.Ordering.{is_lt}
use Rattle.esc_frac.specs.Fits.{ComparisonFits}
use Rattle.esc_frac.specs.Rational.{ℚ, cmp_ℚ}
use Rattle.esc_tableau.specs.Table.{Table}
use Rattle.esc_tableau.specs.Rule.{ratio, bounding}
use Rattle.esc_tableau.specs.Run.{RatioFits, RatiosFit}
use Rattle.esc_tableau.specs.declared.rule.Bound.{Bound}
use Rattle.esc_tableau.specs.declared.rule.Move.{Move}

abbrev pub bound : ℕ → ℚ → Bound
bound r q = record { row = r; ratio = q }

abbrev pub bound_of : Table → Move → Option ℕ → Option Bound
bound_of t m None = None
bound_of t m (Some r) = Some (bound r (ratio t m r))

abbrev pub BoundFits : Option Bound → ℚ → Type 0
BoundFits None q = Unit
BoundFits (Some b) q = ComparisonFits q b.ratio

abbrev pub better : Option Bound → ℕ → ℚ → Bound
better None r q = bound r q
better (Some b) r q = if is_lt (cmp_ℚ q b.ratio) then bound r q else b

-- the ratio of the row that w owns is the first that does not fit
pub record LeavingJams (t : Table) (m : Move) (w : ℕ) : Type 0 where
  pub row : ℕ
  pub bounds : bounding t m w ≡ Some row
  pub before : RatiosFit t m w
  pub jams : ¬ RatioFits t m w row
