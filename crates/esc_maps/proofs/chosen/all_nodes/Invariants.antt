use Rattle.std.proofs.Common.{◌≡◌, ℕ, ◌<◌, length, get_or}
use Rattle.esc_maps.proofs.chosen.all_nodes.Given as goal

abbrev pub invariant-nodes : goal.invariant-nodes
invariant-nodes l =
    (length l.nodes.items ≡ l.index) × ((k : ℕ) → k < l.index → get_or l.nodes.items k 0 ≡ k)
