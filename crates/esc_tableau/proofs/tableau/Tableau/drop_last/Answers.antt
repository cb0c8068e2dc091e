use Rattle.esc_tableau.specs.Changes.{DropsRow}
use Rattle.esc_tableau.proofs.DropLaws.{DropsRow-without_row}
use Rattle.std.proofs.Common.{◌-◌, sym, subst}
use Rattle.esc_tableau.specs.Grid.{table_of}
use Rattle.esc_tableau.specs.Table.{Table, IsTable, OwnsRow, size}
use Rattle.esc_tableau.proofs.ChangeLaws.{IsTable-without_row}
use Rattle.esc_tableau.proofs.tableau.Tableau.drop_last.Goals as goal

pub invariant_of-self : goal.invariant_of-self
invariant_of-self c =
    subst IsTable (sym c.drop_last.ensures)
    (IsTable-without_row (table_of c.self.inside.grid) c.self.invariant
    (subst (λ (t : Table). OwnsRow t (size t - 1)) (sym c.self.view_is) c.requires))

pub returns-clause-drops : goal.returns-clause-drops
returns-clause-drops c =
    let old = table_of c.self.inside.grid in
    subst (λ (t : Table). DropsRow t (table_of c.drop_last.new.self)) c.self.view_is
    (subst (DropsRow old) (sym c.drop_last.ensures)
    (DropsRow-without_row old c.self.invariant
    (subst (λ (t : Table). OwnsRow t (size t - 1)) (sym c.self.view_is) c.requires)))

pub returns-clause-table : goal.returns-clause-table
returns-clause-table c =
    subst IsTable (sym c.drop_last.ensures)
    (IsTable-without_row (table_of c.self.inside.grid) c.self.invariant
    (subst (λ (t : Table). OwnsRow t (size t - 1)) (sym c.self.view_is) c.requires))
