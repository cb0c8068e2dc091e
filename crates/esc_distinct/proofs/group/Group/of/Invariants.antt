use Rattle.std.proofs.Common.{nat_eq}
use Rattle.std.specs.HashMap.{get}
use Rattle.esc_distinct.specs.GroupsInside.{AreIndexed}
use Rattle.esc_distinct.proofs.group.Group.of.Given as goal

abbrev pub invariant-nodes : goal.invariant-nodes
invariant-nodes l = AreIndexed l.nodes l.place (get nat_eq l.places)
