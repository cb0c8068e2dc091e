use Rattle.std.proofs.Common.{◌≡◌, ◌<◌, ◌≤◌, length, sym, ap, ◌∙◌, subst, arith}
use Rattle.std.specs.Result.{IfOk}
use Rattle.esc_tableau.specs.Changes.{Sum, sum, OwnerFits, plus_owner}
use Rattle.esc_tableau.specs.Grid.{table_of}
use Rattle.esc_tableau.specs.Table.{row_of, column_of}
use Rattle.esc_tableau.proofs.ChangeLaws.{PartFits-owner, plus_part-owner}
use Rattle.esc_tableau.proofs.Places.{row_where_no_column}
use Rattle.esc_tableau.proofs.grid.Grid.add_part.Goals as goal

pub add_owner-requires-clause-row : goal.add_owner-requires-clause-row
add_owner-requires-clause-row c =
    let t = table_of c.args.self.now in
    let u = c.args.part.unknown in
    let row : c.row_place-row.result ≡ row_of t u = c.row_place-row.ensures in
    let column : c.column_place-column.result ≡ column_of t u
    = c.column_place-column.ensures in
    let past : length t.columns ≤ column_of t u = omega
    (arith, c.args.self.now.columns.ok.0, column) in
    subst (λ r. r < length t.owners) (sym row) (row_where_no_column t c.requires.table u
    c.requires.unknown past)

pub returns-clause-fits : goal.returns-clause-fits
returns-clause-fits c =
    let t = table_of c.args.self.now in
    let u = c.args.part.unknown in
    let row : c.row_place-row.result ≡ row_of t u = c.row_place-row.ensures in
    let column : c.column_place-column.result ≡ column_of t u
    = c.column_place-column.ensures in
    let past : length t.columns ≤ column_of t u = omega
    (arith, c.args.self.now.columns.ok.0, column) in
    let fits = OwnerFits t (sum c.args.entries.now c.args.held) c.args.part.factor in (
      λ ok. PartFits-owner t c.args.entries.now c.args.held c.args.part past
          (subst fits row (c.add_owner.ensures.fits.0 ok)),
      λ h. c.add_owner.ensures.fits.1 (subst fits (sym row) (h.owner past)),
    )

pub returns-clause-ok : goal.returns-clause-ok
returns-clause-ok c =
    let t = table_of c.args.self.now in
    let u = c.args.part.unknown in
    let row : c.row_place-row.result ≡ row_of t u = c.row_place-row.ensures in
    let column : c.column_place-column.result ≡ column_of t u
    = c.column_place-column.ensures in
    let past : length t.columns ≤ column_of t u = omega
    (arith, c.args.self.now.columns.ok.0, column) in
    subst (λ (s : Sum). IfOk c.add_owner.result (λ k. sum c.add_owner.new.entries k ≡ s))
    (ap (plus_owner t (sum c.args.entries.now c.args.held) c.args.part.factor) row
    ∙ sym (plus_part-owner t c.args.entries.now c.args.held c.args.part past))
    c.add_owner.ensures.ok
