-- The lists of a tableau as a table.
use Rattle.std.specs.Prelude.{map}
use Rattle.esc_tableau.specs.Table.{Table, table}
use Rattle.esc_tableau.specs.declared.grid.Grid.{Grid}

abbrev pub table_of : Grid → Table
table_of g = table g.owners.items g.columns.items (map (λ es. es.items) g.entries.items)
    g.constants.items
