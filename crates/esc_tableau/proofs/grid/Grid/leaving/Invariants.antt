use Rattle.esc_tableau.specs.Grid.{table_of}
use Rattle.esc_tableau.proofs.BoundLaws.{LeastSoFar}
use Rattle.esc_tableau.proofs.grid.Grid.leaving.Given as goal

-- the best of the rows so far
abbrev pub invariant-loop-number : goal.invariant-loop-number
invariant-loop-number l = LeastSoFar (table_of l.self) l.entrant l.best l.number
