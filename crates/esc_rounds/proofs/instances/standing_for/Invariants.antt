use Rattle.std.proofs.Common.{◌≡◌, map, take}
use Rattle.std.specs.Prelude.{slice_index}
use Rattle.esc_rounds.proofs.instances.standing_for.Given as goal

abbrev pub invariant-nodes : goal.invariant-nodes
invariant-nodes l = l.list ≡ map (slice_index l.standing) (take l.node-index l.nodes)
