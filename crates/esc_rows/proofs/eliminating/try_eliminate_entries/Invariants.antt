use Rattle.std.proofs.Common.{ℕ, ◌<◌, set, get_or}
use Rattle.esc_frac.specs.Rational.{zero_ℚ}
use Rattle.esc_rows.specs.Rows.{solved}
use Rattle.esc_rows.specs.Steps.{StepFits}
use Rattle.esc_rows.proofs.eliminating.try_eliminate_entries.Given as goal

-- each step so far fits
abbrev pub invariant-loop-place : goal.invariant-loop-place
invariant-loop-place l = (j : ℕ) → j < l.place → StepFits (get_or l.row l.column zero_ℚ)
    (get_or (set l.row l.column zero_ℚ) j zero_ℚ) (get_or (solved l.own l.column) j zero_ℚ)
