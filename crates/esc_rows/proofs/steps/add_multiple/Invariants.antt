use Rattle.std.proofs.Common.{◌≡◌, ℕ, ◌<◌, ◌≤◌, get_or}
use Rattle.esc_frac.specs.Rational.{zero_ℚ, ◌+ℚ◌, ◌*ℚ◌}
use Rattle.esc_rows.specs.Steps.{StepFits}
use Rattle.esc_rows.proofs.steps.add_multiple.Given as goal

-- the entries so far are sums whose steps fit, and the others are as they were
abbrev pub invariant-loop-place : goal.invariant-loop-place
invariant-loop-place l = record {
  done : (j : ℕ) → j < l.place → get_or l.row j zero_ℚ ≡ get_or l.initial.row j zero_ℚ
      +ℚ l.factor *ℚ get_or l.other j zero_ℚ;
  fits : (j : ℕ) → j < l.place → StepFits l.factor (get_or l.initial.row j zero_ℚ)
      (get_or l.other j zero_ℚ);
  left : (j : ℕ) → l.place ≤ j → get_or l.row j zero_ℚ ≡ get_or l.initial.row j zero_ℚ;
}
