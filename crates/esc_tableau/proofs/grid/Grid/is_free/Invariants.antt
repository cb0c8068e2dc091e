use Rattle.std.proofs.Common.{ℕ, ◌<◌}
use Rattle.esc_tableau.specs.Grid.{table_of}
use Rattle.esc_tableau.specs.Moving.{Blocks}
use Rattle.esc_tableau.proofs.grid.Grid.is_free.Given as goal

-- none so far blocks it
abbrev pub invariant-rows : goal.invariant-rows
invariant-rows l = (r : ℕ) → r < l.row → Blocks (table_of l.self) l.along r → ⊥
