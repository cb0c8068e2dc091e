use Rattle.std.proofs.Common.{ℕ, ◌<◌, length, slice_index}
use Rattle.esc_union.specs.Merges.{SameClass, class_number}
use Rattle.esc_egraph.proofs.parts.find.same_classes.Given as goal

abbrev pub invariant-places : goal.invariant-places
invariant-places l = (k : ℕ) → k < length l.yielded
    → SameClass (class_number l.classes.merges) (slice_index l.xs k) (slice_index l.ys k)
