use Rattle.std.proofs.Common.{◌≡◌, ℕ, ◌<◌, false, get_or}
use Rattle.esc_tableau.specs.Table.{holds, nobody}
use Rattle.esc_tableau.proofs.owner.place_of.Given as goal

-- no owner so far holds the unknown
abbrev pub invariant-loop-place : goal.invariant-loop-place
invariant-loop-place l = (k : ℕ) → k < l.place → holds l.unknown (get_or l.owners k nobody) ≡ false
