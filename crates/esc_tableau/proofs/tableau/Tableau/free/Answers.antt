use Rattle.esc_tableau.specs.Changes.{Frees}
use Rattle.esc_tableau.specs.Table.{Table}
use Rattle.esc_tableau.proofs.WithinLaws.{Frees-with_mark}
use Rattle.std.proofs.Common.{false, sym, subst}
use Rattle.esc_tableau.specs.Grid.{table_of}
use Rattle.esc_tableau.specs.Table.{IsTable}
use Rattle.esc_tableau.proofs.ChangeLaws.{IsTable-with_mark}
use Rattle.esc_tableau.proofs.tableau.Tableau.free.Goals as goal

pub invariant_of-self : goal.invariant_of-self
invariant_of-self c = subst IsTable (sym c.mark.ensures)
    (IsTable-with_mark (table_of c.self.inside.grid) c.args.unknown false c.self.invariant)

pub returns-clause-frees : goal.returns-clause-frees
returns-clause-frees c =
    let old = table_of c.self.inside.grid in
    subst (λ (t : Table). Frees t (table_of c.mark.new.self) c.args.unknown) c.self.view_is
    (subst (λ (t : Table). Frees old t c.args.unknown) (sym c.mark.ensures)
    (Frees-with_mark old c.self.invariant c.args.unknown))

pub returns-clause-table : goal.returns-clause-table
returns-clause-table c = subst IsTable (sym c.mark.ensures)
    (IsTable-with_mark (table_of c.self.inside.grid) c.args.unknown false c.self.invariant)
