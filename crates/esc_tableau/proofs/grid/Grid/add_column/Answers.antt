use Rattle.std.proofs.Common.{◌≡◌, [], ◌∷◌, ◌++◌, List, length, set, refl, ap, ◌∙◌, arith}
use Rattle.esc_tableau.specs.Changes.{free_owner}
use Rattle.esc_tableau.specs.declared.index.Place.TheVariants.{Column}
use Rattle.esc_tableau.specs.declared.owner.Owner.{Owner}
use Rattle.esc_tableau.proofs.Indexed.{indexed_new_column, indexed_same}
use Rattle.esc_tableau.proofs.grid.Grid.add_column.Goals as goal

pub invariant_of-self : goal.invariant_of-self
invariant_of-self c = record {
  indexed = indexed_same refl c.reserve.ensures.items refl c.reserve_index.new.self.indexed;
}

pub invariant_of-self-in-Break-branch-3 : goal.invariant_of-self-in-Break-branch-3
invariant_of-self-in-Break-branch-3 c = record {
  indexed = indexed_same refl c.reserve.ensures.items refl c.reserve_index.new.self.indexed;
}

pub invariant_of-self-2 : goal.invariant_of-self-2
invariant_of-self-2 c =
    let grid = c.reserve_index.new.self in
    let last : c.len-column.result ≡ length grid.columns.items = omega (
      arith,
      c.len-column.ensures,
      c.reserve.new.self.ok.0,
      ap length c.reserve.ensures.items,
    ) in record {
      indexed = indexed_same refl
          (c.push_reserved.ensures.items
          ∙ ap (λ (os : List Owner). os ++ free_owner c.numbered-unknown.result ∷ [])
          c.reserve.ensures.items)
          (c.note.ensures ∙ ap (λ k. set grid.index c.numbered-unknown.result (Column k)) last)
          (indexed_new_column grid.owners.items grid.columns.items grid.index
          (free_owner c.numbered-unknown.result) grid.indexed);
    }
