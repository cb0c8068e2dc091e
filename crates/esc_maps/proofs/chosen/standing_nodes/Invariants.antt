use Rattle.esc_maps.specs.ChosenInside.{StandSoFar}
use Rattle.esc_maps.proofs.chosen.standing_nodes.Given as goal

abbrev pub invariant-nodes : goal.invariant-nodes
invariant-nodes l = StandSoFar l.graph l.leaders.items l.standing.items l.index
