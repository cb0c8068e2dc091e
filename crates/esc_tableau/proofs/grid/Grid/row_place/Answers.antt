use Rattle.std.proofs.Common.{sym, ◌∙◌, arith}
use Rattle.esc_tableau.specs.Grid.{table_of}
use Rattle.esc_tableau.proofs.Indexed.{no_row_noted, row_noted}
use Rattle.esc_tableau.proofs.grid.Grid.row_place.Goals as goal

pub returns-in-Row : goal.returns-in-Row
returns-in-Row c = sym (row_noted (table_of c.args.self.now) c.requires c.args.unknown c.in-Row.row
    (c.args.self.now.indexed.0 c.args.unknown c.in-Row.row (sym c.place.ensures ∙ c.in-Row.is)))

pub returns-in-Column : goal.returns-in-Column
returns-in-Column c = omega (
  arith,
  c.args.self.now.owners.ok.0,
  no_row_noted (table_of c.args.self.now) c.requires c.args.unknown c.in-Column.field-0
      (c.args.self.now.indexed.1 c.args.unknown c.in-Column.field-0
      (sym c.place.ensures ∙ c.in-Column.is)),
)
