use Rattle.std.proofs.Common.{◌<◌, subst}
use Rattle.std.specs.List.{All}
use Rattle.std.proofs.lemmas.List.{take_all}
use Rattle.std.proofs.lemmas.List.Elements.{All-more}
use Rattle.esc_sharing.specs.Nodes.{node_count}
use Rattle.sharing_cases.proofs.script.Script.has_nodes.Goals as goal

pub nodes-preserved : goal.nodes-preserved
nodes-preserved g c = All-more (λ a. a < node_count c.args.self.now.owner.graph) c.args.nodes.now
    c.nodes.node-index c.node-item.result c.nodes-test.true c.nodes.invariant
    (subst (λ a. a < node_count c.args.self.now.owner.graph) c.node-item.is
    (c.has_node.ensures c.if-not-has_node.false))

pub returns : goal.returns
returns g c = λ h. subst (All (λ a. a < node_count c.args.self.now.owner.graph))
    (take_all c.nodes.node-index c.args.nodes.now c.nodes-test.false) c.nodes.invariant
