use Rattle.std.proofs.Common.{ℕ, ◌<◌, get_or}
use Rattle.esc_maps.specs.Chosen.{IsShallower}
use Rattle.esc_maps.specs.Maps.{AreAlikeWrites}
use Rattle.esc_maps.proofs.writes.has_shallower.Given as goal

abbrev pub invariant-nodes : goal.invariant-nodes
invariant-nodes l =
    (k : ℕ) → k < l.node-index → AreAlikeWrites l.graph (get_or l.nodes k 0) l.write
    × IsShallower l.depths (get_or l.nodes k 0) l.write → ⊥
