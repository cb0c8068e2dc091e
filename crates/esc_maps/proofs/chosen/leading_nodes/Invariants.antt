use Rattle.esc_maps.specs.ChosenInside.{AreLed}
use Rattle.esc_maps.proofs.chosen.leading_nodes.Given as goal

abbrev pub invariant-nodes : goal.invariant-nodes
invariant-nodes l = AreLed l.graph l.depths l.leaders.items l.index
