use Rattle.std.proofs.Common.{◌≡◌, map, take}
use Rattle.esc_sharing.specs.Nodes.{node_term}
use Rattle.esc_context.proofs.classes.class_of.Given as goal

abbrev pub invariant-members : goal.invariant-members
invariant-members l = l.terms ≡ map (node_term l.sharing.graph) (take l.member-index l.members)
