use Rattle.esc_simplex.proofs.Empty.{simplex_of_empty}
use Rattle.esc_simplex.proofs.simplex.Simplex.new.Goals as goal

pub returns-clause-simplex : goal.returns-clause-simplex
returns-clause-simplex c =
    simplex_of_empty (record {
      tableau = c.new.result;
      made = c.new-2.result;
      unknowns
          = c.new-3.result;
      bound = c.new-4.result;
      restricted = c.new-5.result;
      limit
          = c.args.pivots;
      alloc = c.args.alloc;
    })
    c.new.ensures.empty c.new-2.ensures c.new-3.ensures c.new-4.ensures c.new-5.ensures
    c.new.ensures.table c.new.ensures.within
