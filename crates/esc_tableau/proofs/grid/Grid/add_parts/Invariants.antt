use Rattle.std.proofs.Common.{◌≡◌, ◌↔◌, drop}
use Rattle.esc_tableau.specs.Changes.{sum, plus_parts, PartsFit}
use Rattle.esc_tableau.specs.Grid.{table_of}
use Rattle.esc_tableau.proofs.grid.Grid.add_parts.Given as goal

-- what is left to add gives what all gives
abbrev pub invariant-loop-place : goal.invariant-loop-place
invariant-loop-place l = record {
  whole : plus_parts (table_of l.self) (sum l.entries l.total) (drop l.place l.parts)
      ≡ plus_parts (table_of l.self) (sum l.initial.entries l.fn.held) l.parts;
  fits : PartsFit (table_of l.self) (sum l.entries l.total) (drop l.place l.parts)
      ↔ PartsFit (table_of l.self) (sum l.initial.entries l.fn.held) l.parts;
}
