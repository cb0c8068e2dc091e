use Rattle.std.proofs.Common.{ℕ, ◌<◌, slice_index_or}
use Rattle.esc_union.specs.Merges.{class_number}
use Rattle.esc_egraph.specs.Congruence.{Joins}
use Rattle.esc_egraph.proofs.parts.apart.any_joins.Given as goal

abbrev pub invariant-pairs : goal.invariant-pairs
invariant-pairs l = (k : ℕ) → k < l.pair-index →
    Joins (class_number l.classes.merges) l.a l.b (slice_index_or l.pairs k (0, 0)) → ⊥
