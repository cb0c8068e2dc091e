use Rattle.std.proofs.Common.{◌≡◌, ◌++◌, map, take}
use Rattle.esc_egraph.specs.Graph.{number_of}
use Rattle.esc_rounds.proofs.key.add_classes.Given as goal

abbrev pub invariant-nodes : goal.invariant-nodes
invariant-nodes l =
    l.classes ≡ l.fn.classes ++ map (number_of l.graph) (take l.node-index l.nodes)
