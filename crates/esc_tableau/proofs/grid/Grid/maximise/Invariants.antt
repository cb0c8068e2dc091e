use Rattle.esc_tableau.specs.Grid.{table_of}
use Rattle.esc_tableau.specs.Run.{HasPivoted}
use Rattle.esc_tableau.specs.Table.{IsTable}
use Rattle.esc_tableau.proofs.grid.Grid.maximise.Given as goal

-- as many pivots of the run were made
abbrev pub invariant-loop-spent : goal.invariant-loop-spent
invariant-loop-spent l = record {
  table : IsTable (table_of l.self);
  reached : HasPivoted (table_of l.initial.self) (table_of l.self) l.unknown l.spent;
}
