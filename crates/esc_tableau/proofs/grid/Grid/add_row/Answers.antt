use Rattle.std.proofs.Common.{◌≡◌, length, set, refl, ap, ◌∙◌, arith}
use Rattle.esc_tableau.specs.Changes.{free_owner}
use Rattle.esc_tableau.specs.declared.index.Place.TheVariants.{Row}
use Rattle.esc_tableau.proofs.Indexed.{indexed_new_row, indexed_same}
use Rattle.esc_tableau.proofs.grid.Grid.add_row.Goals as goal

pub invariant_of-self : goal.invariant_of-self
invariant_of-self c =
    let grid = c.reserve_row.new.self in
    let last : c.len-row.result ≡ length grid.owners.items = omega (
      arith,
      c.len-row.ensures,
      grid.owners.ok.0,
    ) in record {
      indexed = indexed_same c.push_reserved.ensures.items refl
          (c.note.ensures ∙ ap (λ k. set grid.index c.numbered-unknown.result (Row k)) last)
          (indexed_new_row grid.owners.items grid.columns.items grid.index
          (free_owner c.numbered-unknown.result) grid.indexed);
    }
