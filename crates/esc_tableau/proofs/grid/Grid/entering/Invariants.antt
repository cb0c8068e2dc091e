use Rattle.std.proofs.Common.{◌≡◌, None}
use Rattle.esc_tableau.specs.Grid.{table_of}
use Rattle.esc_tableau.specs.Rule.{first, improving}
use Rattle.esc_tableau.proofs.grid.Grid.entering.Given as goal

-- none so far improves the unknown
abbrev pub invariant-loop-number : goal.invariant-loop-number
invariant-loop-number l = first (improving (table_of l.self) l.unknown) l.number ≡ None
