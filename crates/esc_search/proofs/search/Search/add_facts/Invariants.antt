use Rattle.std.proofs.Common.{◌≡◌, length}
use Rattle.esc_egraph.specs.declared.state.State.TheVariants as state
use Rattle.esc_search.specs.SearchInside.{IsAmid, IsKept}
use Rattle.esc_search.proofs.search.Search.add_facts.Given as goal

abbrev pub invariant-facts : goal.invariant-facts
invariant-facts l = record {
  here : IsAmid l.base l.self l.course l.coming state.Open;
  splits : l.self.splits ≡ l.fn.self.splits;
  kept : IsKept l.base l.fn.self l.course.waiting l.self l.course.waiting;
}

abbrev pub decreases-facts : goal.decreases-facts
decreases-facts l = length l.coming
