use Rattle.std.proofs.Common.{◌≡◌, ◌-◌, map, refl, ap, ◌∙◌, arith}
use Rattle.std.specs.List.{remove}
use Rattle.esc_tableau.specs.Grid.{table_of}
use Rattle.esc_tableau.specs.Table.{row_of, size}
use Rattle.esc_tableau.proofs.ChangeLaws.{map-remove}
use Rattle.esc_tableau.proofs.Indexed.{indexed_removed, indexed_same}
use Rattle.esc_tableau.proofs.Tables.{same_table}
use Rattle.esc_tableau.proofs.grid.Grid.drop_last.Goals as goal

pub returns : goal.returns
returns c =
    let t = table_of c.args.self.now in
    let grid = c.args.self.now in
    let last = c.numbered.ensures ∙ ap (λ n. n - 1) c.count.ensures in
    let row : c.row_place-row.result ≡ row_of t (size t - 1) = c.row_place-row.ensures
    ∙ ap (row_of t) last in
    same_table (c.remove-owner.ensures.items ∙ ap (remove grid.owners.items) row) refl
    (ap (map (λ es. es.items)) c.remove-entries.ensures.items
    ∙ map-remove (λ es. es.items) grid.entries.items c.row_place-row.result
    ∙ ap (remove (map (λ es. es.items) grid.entries.items)) row)
    (c.remove-constant.ensures.items ∙ ap (remove grid.constants.items) row)

pub invariant_of-self : goal.invariant_of-self
invariant_of-self c =
    let t = table_of c.args.self.now in
    let grid = c.args.self.now in
    let last = c.numbered.ensures ∙ ap (λ n. n - 1) c.count.ensures in
    let row : c.row_place-row.result ≡ row_of t (size t - 1) = c.row_place-row.ensures
    ∙ ap (row_of t) last in record {
      indexed = indexed_same c.remove-owner.ensures.items refl c.remove_row.ensures
          (indexed_removed grid.owners.items grid.columns.items grid.index
          c.row_place-row.result (omega (arith, row, c.requires.row)) grid.indexed);
    }
