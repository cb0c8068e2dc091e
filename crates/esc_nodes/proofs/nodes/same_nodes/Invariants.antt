use Rattle.std.proofs.Common.{◌≡◌, ℕ, ◌<◌, length, slice_index}
use Rattle.esc_nodes.proofs.nodes.same_nodes.Given as goal

abbrev pub invariant-places : goal.invariant-places
invariant-places l = (k : ℕ) → k < length l.yielded → slice_index l.xs k ≡ slice_index l.ys k
