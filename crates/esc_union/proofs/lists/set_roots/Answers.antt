use Rattle.esc_union.proofs.Setting.{Setting-starts, Setting-step, Setting-these, Setting-others}
use Rattle.esc_union.proofs.lists.set_roots.Goals as goal

pub nodes-init : goal.nodes-init
nodes-init c = Setting-starts c.args.nodes.now c.args.roots.now.items c.args.root

pub nodes-preserved : goal.nodes-preserved
nodes-preserved c =
    rw c.index.ensures (Setting-step c.args.nodes.now c.args.roots.now.items c.nodes.roots.items
    c.args.root c.nodes.node-index c.node-item.result
    (λ k d l. c.requires k d l) c.nodes-test.true c.node-item.is c.nodes.invariant)

pub returns-clause-these : goal.returns-clause-these
returns-clause-these c =
    Setting-these c.args.nodes.now c.args.roots.now.items c.nodes.roots.items c.args.root
    c.nodes.node-index c.nodes-test.false c.nodes.invariant

pub returns-clause-others : goal.returns-clause-others
returns-clause-others c =
    Setting-others c.args.nodes.now c.args.roots.now.items c.nodes.roots.items c.args.root
    c.nodes.node-index c.nodes.auto.node-index-end c.nodes.invariant
