use Rattle.std.proofs.Common.{ℕ, ◌<◌, slice_index}
use Rattle.esc_egraph.specs.Graph.{number_of}
use Rattle.esc_union.specs.Merges.{SameClass}
use Rattle.esc_distinct.proofs.search.place_in_class.Given as goal

abbrev pub invariant-places : goal.invariant-places
invariant-places l = (i : ℕ) → i < l.place →
    SameClass (number_of l.graph) (slice_index l.group i) l.a → ⊥
