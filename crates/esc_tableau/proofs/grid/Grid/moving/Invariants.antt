use Rattle.std.proofs.Common.{ℕ, ◌<◌}
use Rattle.std.specs.Prelude.{◌↔◌}
use Rattle.std.specs.List.{Contains}
use Rattle.esc_tableau.specs.Grid.{table_of}
use Rattle.esc_tableau.specs.Moving.{CanMove}
use Rattle.esc_tableau.proofs.grid.Grid.moving.Given as goal

-- those so far that can move
abbrev pub invariant-columns : goal.invariant-columns
invariant-columns l = (c : ℕ) → Contains l.moving.items c
    ↔ ((c < l.column) × CanMove (table_of l.self) c)
