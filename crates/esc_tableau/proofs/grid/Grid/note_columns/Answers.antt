use Rattle.std.proofs.Common.{◌<◌, length, sym, ap, refl, arith}
use Rattle.std.proofs.lemmas.List.{get_or_read}
use Rattle.esc_tableau.specs.Table.{Table, nobody}
use Rattle.esc_tableau.specs.declared.index.Place.TheVariants.{Column}
use Rattle.esc_tableau.specs.declared.owner.Owner.{Owner}
use Rattle.esc_tableau.proofs.Indexed.{indexed_noted, indexed_same}
use Rattle.esc_tableau.proofs.grid.Grid.note_columns.Goals as goal

pub invariant_of-self : goal.invariant_of-self
invariant_of-self c =
    let grid = c.loop-column.self in
    let inside : c.loop-column.column < length grid.columns.items = omega (
      arith,
      c.loop-column-test.true,
      c.len-column-end.ensures,
      c.args.self.now.columns.ok.0,
      ap (λ (t : Table). length t.columns) c.loop-column.invariant,
    ) in
    let read = get_or_read grid.columns.items c.loop-column.column c.index.result.now inside
    c.index.ensures nobody in record {
      indexed = indexed_same refl refl c.note.ensures
          (indexed_noted grid.owners.items grid.columns.items grid.index grid.indexed
          c.index.result.now.unknown (Column c.loop-column.column)
          (inside, ap (λ (o : Owner). o.unknown) (sym read)));
    }
