use Rattle.std.proofs.Common.{◌≡◌, sym, subst}
use Rattle.esc_tableau.specs.Grid.{table_of}
use Rattle.esc_tableau.specs.Listed.{tabled}
use Rattle.esc_tableau.specs.Table.{IsTable}
use Rattle.esc_tableau.specs.declared.listed.Rows.{Rows}
use Rattle.esc_tableau.proofs.ChangeLaws.{IfOk-weaker}
use Rattle.esc_tableau.proofs.ListedLaws.{listed_among}
use Rattle.esc_tableau.proofs.tableau.Tableau.rows.Goals as goal

pub returns-clause-table : goal.returns-clause-table
returns-clause-table c =
    let t = table_of c.self.inside.grid in
    IfOk-weaker (λ (rows : Rows). tabled rows ≡ t) (λ (rows : Rows). IsTable (tabled rows))
    (λ rows e. subst IsTable (sym e) c.self.invariant) c.rows.result c.rows.ensures.rows

pub returns-clause-among : goal.returns-clause-among
returns-clause-among c = listed_among (table_of c.self.inside.grid) c.self.invariant c.rows.result
    c.rows.ensures.restricted c.rows.ensures.rows
