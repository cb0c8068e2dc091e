use Rattle.std.proofs.Common.{◌≢◌, ℕ, ◌<◌, get_or}
use Rattle.esc_frac.specs.Fits.{QuotientFits}
use Rattle.esc_frac.specs.Rational.{zero_ℚ}
use Rattle.esc_rows.proofs.solving.try_solve_entries.Given as goal

-- each division so far fits
abbrev pub invariant-loop-place : goal.invariant-loop-place
invariant-loop-place l = (j : ℕ) → j < l.place → j ≢ l.column
    → QuotientFits (get_or l.row j zero_ℚ) (get_or l.row l.column zero_ℚ)
