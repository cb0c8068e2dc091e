use Rattle.std.proofs.Common.{◌<◌}
use Rattle.esc_frac.specs.Rational.{zero_ℚ, ◌≤ℚ◌}
use Rattle.esc_tableau.specs.Changes.{Restricts}
use Rattle.esc_tableau.specs.Table.{Table, size, sample}
use Rattle.esc_tableau.proofs.WithinLaws.{Restricts-with_mark}
use Rattle.std.proofs.Common.{true, sym, subst}
use Rattle.esc_tableau.specs.Grid.{table_of}
use Rattle.esc_tableau.specs.Table.{IsTable}
use Rattle.esc_tableau.proofs.ChangeLaws.{IsTable-with_mark}
use Rattle.esc_tableau.proofs.tableau.Tableau.restrict.Goals as goal

pub invariant_of-self : goal.invariant_of-self
invariant_of-self c = subst IsTable (sym c.mark.ensures)
    (IsTable-with_mark (table_of c.self.inside.grid) c.args.unknown true c.self.invariant)

pub returns-clause-restricts : goal.returns-clause-restricts
returns-clause-restricts c =
    let old = table_of c.self.inside.grid in
    let u = c.args.unknown in
    subst (λ (t : Table). Restricts t (table_of c.mark.new.self) u) c.self.view_is
    (subst (λ (t : Table). Restricts old t u) (sym c.mark.ensures)
    (Restricts-with_mark old c.self.invariant u (subst (λ (t : Table). u < size t)
    (sym c.self.view_is) c.requires.unknown) (subst (λ (t : Table). zero_ℚ ≤ℚ sample t u)
    (sym c.self.view_is) c.requires.sample)))

pub returns-clause-table : goal.returns-clause-table
returns-clause-table c = subst IsTable (sym c.mark.ensures)
    (IsTable-with_mark (table_of c.self.inside.grid) c.args.unknown true c.self.invariant)
