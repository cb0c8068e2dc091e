use Rattle.std.proofs.Common.{◌≡◌}
use Rattle.esc_tableau.specs.Grid.{table_of}
use Rattle.esc_tableau.proofs.grid.Grid.note_rows.Given as goal

-- the rows are as they were
abbrev pub invariant-loop-row : goal.invariant-loop-row
invariant-loop-row l = table_of l.self ≡ table_of l.fn.self
