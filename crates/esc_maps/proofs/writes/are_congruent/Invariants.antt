use Rattle.std.proofs.Common.{ℕ, ◌<◌, get_or}
use Rattle.esc_egraph.specs.Graph.{number_of}
use Rattle.esc_union.specs.Merges.{SameClass}
use Rattle.esc_maps.proofs.writes.are_congruent.Given as goal

abbrev pub invariant-places : goal.invariant-places
invariant-places l =
    (k : ℕ) → k < l.place → SameClass (number_of l.graph) (get_or l.lefts k 0) (get_or l.rights k 0)
