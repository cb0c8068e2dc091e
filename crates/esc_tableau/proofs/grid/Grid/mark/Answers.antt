use Rattle.std.proofs.Common.{◌≡◌, ◌<◌, ap, ◌∙◌, length, sym, subst}
use Rattle.esc_rows.proofs.RowLemmas.{items-with_items}
use Rattle.esc_tableau.specs.Changes.{marked}
use Rattle.esc_tableau.specs.Grid.{table_of}
use Rattle.esc_tableau.proofs.Indexed.{indexed_kept, indexed_same, keeps_mark}
use Rattle.esc_tableau.proofs.Places.{column-column_of, owner-row_of}
use Rattle.std.proofs.Common.{refl, ℕ, get_or}
use Rattle.esc_tableau.specs.Table.{nobody}
use Rattle.esc_tableau.proofs.grid.Grid.mark.Goals as goal

pub invariant_of-self : goal.invariant_of-self
invariant_of-self c =
    let grid = c.args.self.now in
    let t = table_of grid in record {
      indexed = indexed_same
          (items-with_items grid.owners c.mark_at.new.owners (c.mark_at.auto.owners
          ∙ ap length c.deref_mut.ensures.value)
          ∙ c.mark_at.ensures
          ∙ ap (λ os. marked os c.args.unknown c.args.restricted c.row_place-row.result)
          c.deref_mut.ensures.value)
          (items-with_items grid.columns c.mark_at-2.new.owners (c.mark_at-2.auto.owners
          ∙ ap length c.deref_mut-2.ensures.value)
          ∙ c.mark_at-2.ensures
          ∙ ap (λ os. marked os c.args.unknown c.args.restricted c.column_place-column.result)
          c.deref_mut-2.ensures.value)
          refl
          (indexed_kept grid.owners.items grid.columns.items _ _ grid.index
          (keeps_mark grid.owners.items c.args.unknown c.row_place-row.result c.args.restricted
          (subst (λ (i : ℕ). i < length t.owners → (get_or t.owners i nobody).unknown
          ≡ c.args.unknown) (sym c.row_place-row.ensures)
          (owner-row_of t c.requires.table c.args.unknown)))
          (keeps_mark grid.columns.items c.args.unknown c.column_place-column.result
          c.args.restricted
          (subst (λ (i : ℕ). i < length t.columns → (get_or t.columns i nobody).unknown
          ≡ c.args.unknown) (sym c.column_place-column.ensures)
          (column-column_of t c.requires.table c.args.unknown)))
          grid.indexed);
    }
