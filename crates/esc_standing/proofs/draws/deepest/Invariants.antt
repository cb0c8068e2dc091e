use Rattle.std.proofs.Common.{◌≡◌, map, max, take}
use Rattle.std.specs.Prelude.{slice_index}
use Rattle.std.specs.List.{fold}
use Rattle.esc_standing.proofs.draws.deepest.Given as goal

abbrev pub invariant-nodes : goal.invariant-nodes
invariant-nodes l =
    l.depth ≡ fold max l.least (map (slice_index l.depths) (take l.node-index l.nodes))
