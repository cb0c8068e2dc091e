use Rattle.std.proofs.Common.{◌<◌, take}
use Rattle.std.specs.List.{All}
use Rattle.esc_sharing.specs.Nodes.{node_count}
use Rattle.sharing_cases.proofs.script.Script.has_nodes.Given as goal

abbrev pub invariant-nodes : goal.invariant-nodes
invariant-nodes g l = All (λ a. a < node_count l.self.owner.graph) (take l.node-index l.nodes)
