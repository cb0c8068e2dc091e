use Rattle.std.proofs.Common.{◌<◌}
use Rattle.esc_maps.specs.Maps.{StandsForWrites}
use Rattle.esc_maps.specs.ReadsInside.{AreThose}
use Rattle.esc_maps.proofs.writes.writes.Given as goal

abbrev pub invariant-nodes : goal.invariant-nodes
invariant-nodes l =
    AreThose (λ n. (n < l.index) × StandsForWrites l.graph l.depths n) l.nodes.items
