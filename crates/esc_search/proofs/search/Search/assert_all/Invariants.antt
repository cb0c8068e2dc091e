use Rattle.std.proofs.Common.{[], ◌-◌, length}
use Rattle.esc_search.specs.SearchInside.{IsKept, IsLogged}
use Rattle.esc_search.proofs.search.Search.assert_all.Given as goal

abbrev pub invariant-facts : goal.invariant-facts
invariant-facts l = record {
  logged : IsLogged l.base l.self;
  kept : IsKept l.base l.fn.self [] l.self [];
}

abbrev pub decreases-facts : goal.decreases-facts
decreases-facts l = length l.self.log - length l.self.branch.book.live
