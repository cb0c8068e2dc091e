use Rattle.esc_context.proofs.Marking.{Marking-starts, Marking-step, Marking-these, Marking-others}
use Rattle.esc_context.proofs.classes.mark.Goals as goal

pub nodes-init : goal.nodes-init
nodes-init c = Marking-starts c.args.nodes.now c.args.marks.now.items

pub nodes-preserved : goal.nodes-preserved
nodes-preserved c =
    rw c.index.ensures
    (Marking-step c.args.nodes.now c.args.marks.now.items c.nodes.marks.items c.nodes.node-index
    c.node-item.result
    (λ k d l. c.requires k d l) c.nodes-test.true c.node-item.is c.nodes.invariant)

pub returns-clause-these : goal.returns-clause-these
returns-clause-these c =
    Marking-these c.args.nodes.now c.args.marks.now.items c.nodes.marks.items c.nodes.node-index
    c.nodes.invariant c.nodes-test.false

pub returns-clause-others : goal.returns-clause-others
returns-clause-others c =
    Marking-others c.args.nodes.now c.args.marks.now.items c.nodes.marks.items c.nodes.node-index
    c.nodes.invariant c.nodes.auto.node-index-end
