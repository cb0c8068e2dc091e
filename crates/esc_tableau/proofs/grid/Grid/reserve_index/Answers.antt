use Rattle.esc_tableau.proofs.Indexed.{indexed_alike}
use Rattle.esc_tableau.proofs.grid.Grid.reserve_index.Goals as goal

pub invariant_of-self : goal.invariant_of-self
invariant_of-self c =
    let grid = c.args.self.now in record {
      indexed = indexed_alike grid.owners.items grid.columns.items grid.index grid.indexed
          c.reserve.new.self c.reserve.ensures;
    }
