use Rattle.std.proofs.Common.{ℕ, ◌≢◌, ◌<◌, slice_index}
use Rattle.esc_egraph.specs.Graph.{number_of}
use Rattle.esc_union.specs.Merges.{SameClass}
use Rattle.esc_distinct.proofs.search.class_elsewhere.Given as goal

abbrev pub invariant-others : goal.invariant-others
invariant-others l = (j : ℕ) → j < l.other → l.place ≢ j →
    SameClass (number_of l.graph) (slice_index l.group j) l.b → ⊥
