use Rattle.std.proofs.Common.{◌<◌, length, sym, ap, refl, arith}
use Rattle.std.proofs.lemmas.List.{get_or_read}
use Rattle.esc_tableau.specs.Table.{Table, nobody}
use Rattle.esc_tableau.specs.declared.index.Place.TheVariants.{Row}
use Rattle.esc_tableau.specs.declared.owner.Owner.{Owner}
use Rattle.esc_tableau.proofs.Indexed.{indexed_noted, indexed_same}
use Rattle.esc_tableau.proofs.grid.Grid.note_rows.Goals as goal

pub invariant_of-self : goal.invariant_of-self
invariant_of-self c =
    let grid = c.loop-row.self in
    let inside : c.loop-row.row < length grid.owners.items = omega (
      arith,
      c.loop-row-test.true,
      c.len-row-end.ensures,
      c.args.self.now.owners.ok.0,
      ap (λ (t : Table). length t.owners) c.loop-row.invariant,
    ) in
    let read = get_or_read grid.owners.items c.loop-row.row c.index.result.now inside
    c.index.ensures nobody in record {
      indexed = indexed_same refl refl c.note.ensures
          (indexed_noted grid.owners.items grid.columns.items grid.index grid.indexed
          c.index.result.now.unknown (Row c.loop-row.row)
          (inside, ap (λ (o : Owner). o.unknown) (sym read)));
    }
