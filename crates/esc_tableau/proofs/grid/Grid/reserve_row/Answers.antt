use Rattle.std.proofs.Common.{refl}
use Rattle.esc_tableau.proofs.Indexed.{indexed_same}
use Rattle.esc_tableau.proofs.grid.Grid.reserve_row.Goals as goal

pub invariant_of-self : goal.invariant_of-self
invariant_of-self c = record {
  indexed = indexed_same c.reserve.ensures.items refl refl c.reserve_index.new.self.indexed;
}

pub invariant_of-self-in-Break-branch-3 : goal.invariant_of-self-in-Break-branch-3
invariant_of-self-in-Break-branch-3 c = record {
  indexed = indexed_same c.reserve.ensures.items refl refl c.reserve_index.new.self.indexed;
}

pub invariant_of-self-2 : goal.invariant_of-self-2
invariant_of-self-2 c = record {
  indexed = indexed_same c.reserve.ensures.items refl refl c.reserve_index.new.self.indexed;
}
