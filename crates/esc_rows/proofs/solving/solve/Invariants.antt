use Rattle.std.proofs.Common.{◌≡◌, ℕ, ◌<◌, ◌≤◌, get_or}
use Rattle.esc_frac.specs.Rational.{zero_ℚ}
use Rattle.esc_rows.specs.Rows.{solved}
use Rattle.esc_rows.proofs.solving.solve.Given as goal

-- the entries so far are written, and the others are as they were
abbrev pub invariant-loop-place : goal.invariant-loop-place
invariant-loop-place l = record {
  written : (j : ℕ) → j < l.place → get_or l.row j zero_ℚ
      ≡ get_or (solved l.initial.row l.column) j zero_ℚ;
  left : (j : ℕ) → l.place ≤ j → get_or l.row j zero_ℚ ≡ get_or l.initial.row j zero_ℚ;
}
