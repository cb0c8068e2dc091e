use Rattle.std.proofs.Common.{◌≢◌, ℕ, ◌<◌, pos, [], map, get_or}
use Rattle.esc_frac.specs.Rational.{zero_ℚ}
use Rattle.esc_rows.specs.Rows.{solved}
use Rattle.esc_rows.specs.Steps.{EliminationFits}
use Rattle.esc_rows.proofs.eliminating.try_eliminate_rows.Given as goal

-- each step of the rows so far fits
abbrev pub invariant-loop-place : goal.invariant-loop-place
invariant-loop-place l = (i : ℕ) → i < l.place → i ≢ l.kept
    → (get_or (get_or (map (λ es. es.items) l.rows) i []) l.column zero_ℚ).num ≢ pos 0
    → EliminationFits (get_or (map (λ es. es.items) l.rows) i []) (get_or l.constants i zero_ℚ)
    l.column (solved l.own l.column) l.constant
