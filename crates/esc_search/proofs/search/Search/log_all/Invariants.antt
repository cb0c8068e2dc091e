use Rattle.std.proofs.Common.{[], ◌-◌, ◌≤◌, length}
use Rattle.esc_search.specs.SearchInside.{IsBegun, IsKept}
use Rattle.esc_search.proofs.search.Search.log_all.Given as goal

abbrev pub invariant-background : goal.invariant-background
invariant-background l = record {
  begun : IsBegun l.base l.self;
  few : length l.self.log ≤ length l.base.background;
  kept : IsKept l.base l.fn.self [] l.self [];
}

abbrev pub decreases-background : goal.decreases-background
decreases-background l = length l.base.background - length l.self.log
