use Rattle.esc_tableau.proofs.AddLaws.{row_ends_adds}
use Rattle.std.proofs.Common.{◌<◌, sym, subst}
use Rattle.std.specs.List.{All}
use Rattle.esc_tableau.specs.Changes.{RowEnds}
use Rattle.esc_tableau.specs.Grid.{table_of}
use Rattle.esc_tableau.specs.Table.{Table, size}
use Rattle.esc_tableau.specs.declared.changing.Part.{Part}
use Rattle.esc_tableau.proofs.ChangeLaws.{row_ends_table}
use Rattle.esc_tableau.proofs.tableau.Tableau.add_row.Goals as goal

pub invariant_of-self : goal.invariant_of-self
invariant_of-self c =
    let old = table_of c.self.inside.grid in
    let new = table_of c.add_row.new.self in
    row_ends_table old new c.args.parts.now c.args.constant c.add_row.result c.self.invariant
    (subst (λ (t : Table). All (λ (p : Part). p.unknown < size t) c.args.parts.now)
    (sym c.self.view_is) c.requires)
    (subst (λ ps. RowEnds old new ps c.args.constant c.add_row.result) c.as_slice.ensures
    c.add_row.ensures)

pub returns-clause-adds : goal.returns-clause-adds
returns-clause-adds c =
    let old = table_of c.self.inside.grid in
    let new = table_of c.add_row.new.self in
    row_ends_adds old new c.args.self.now c.args.parts.now c.args.constant c.add_row.result
    c.self.invariant
    (subst (λ (t : Table). All (λ (p : Part). p.unknown < size t) c.args.parts.now)
    (sym c.self.view_is) c.requires) c.self.view_is
    (subst (λ ps. RowEnds old new ps c.args.constant c.add_row.result) c.as_slice.ensures
    c.add_row.ensures)

pub returns-clause-table : goal.returns-clause-table
returns-clause-table c =
    let old = table_of c.self.inside.grid in
    let new = table_of c.add_row.new.self in
    row_ends_table old new c.args.parts.now c.args.constant c.add_row.result c.self.invariant
    (subst (λ (t : Table). All (λ (p : Part). p.unknown < size t) c.args.parts.now)
    (sym c.self.view_is) c.requires)
    (subst (λ ps. RowEnds old new ps c.args.constant c.add_row.result) c.as_slice.ensures
    c.add_row.ensures)
