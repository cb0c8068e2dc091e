use Rattle.std.proofs.Common.{[]}
use Rattle.esc_search.specs.SearchInside.{IsAt, IsKept, steps_left}
use Rattle.esc_search.proofs.search.Search.explore.Given as goal

abbrev pub invariant-steps : goal.invariant-steps
invariant-steps l = record {
  here : IsAt l.base l.self l.course l.state;
  kept : IsKept l.base l.fn.self [] l.self l.course.waiting;
}

abbrev pub decreases-steps : goal.decreases-steps
decreases-steps l = steps_left l.self l.course
