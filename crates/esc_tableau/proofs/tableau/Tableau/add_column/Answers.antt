use Rattle.esc_tableau.proofs.AddLaws.{column_ends_adds}
use Rattle.esc_tableau.specs.Grid.{table_of}
use Rattle.esc_tableau.proofs.ChangeLaws.{column_ends_table}
use Rattle.esc_tableau.proofs.tableau.Tableau.add_column.Goals as goal

pub invariant_of-self : goal.invariant_of-self
invariant_of-self c = column_ends_table (table_of c.self.inside.grid)
    (table_of c.add_column.new.self) c.add_column.result c.self.invariant c.add_column.ensures.ok
    c.add_column.ensures.err

pub returns-clause-adds : goal.returns-clause-adds
returns-clause-adds c =
    let old = table_of c.self.inside.grid in
    let new = table_of c.add_column.new.self in
    column_ends_adds old new c.args.self.now c.add_column.result c.self.invariant c.self.view_is
    c.add_column.ensures.ok

pub returns-clause-table : goal.returns-clause-table
returns-clause-table c = column_ends_table (table_of c.self.inside.grid)
    (table_of c.add_column.new.self) c.add_column.result c.self.invariant c.add_column.ensures.ok
    c.add_column.ensures.err
