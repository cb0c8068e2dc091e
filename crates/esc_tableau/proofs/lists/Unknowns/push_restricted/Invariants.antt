use Rattle.std.proofs.Common.{◌≡◌, ◌++◌, take}
use Rattle.esc_tableau.specs.Listed.{restricted_in}
use Rattle.esc_tableau.proofs.lists.Unknowns.push_restricted.Given as goal

-- those so far stand at the end
abbrev pub invariant-loop-owner : goal.invariant-loop-owner
invariant-loop-owner l = l.self ≡ l.initial.self ++ restricted_in (take l.owner-index l.owners)
