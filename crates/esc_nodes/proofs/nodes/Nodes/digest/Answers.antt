use Rattle.std.proofs.Common.{ap, ◌∙◌}
use Rattle.esc_nodes.specs.DigestsInside.{digests}
use Rattle.esc_nodes.proofs.Digests.{filed-read, filed-past}
use Rattle.esc_nodes.proofs.nodes.Nodes.digest.Goals as goal

pub returns-in-Some : goal.returns-in-Some
returns-in-Some c =
    filed-read c.args.self.now c.self.inside.table (c.self.invariant.filed
    ∙ ap digests c.self.view_is)
    c.index.result c.args.node c.in-Some.digest c.index.ensures c.in-Some.ensures.some

pub returns-in-None : goal.returns-in-None
returns-in-None c =
    filed-past c.args.self.now c.self.inside.table (c.self.invariant.filed
    ∙ ap digests c.self.view_is)
    c.index.result c.args.node c.digest-in-None.result c.index.ensures c.in-None.ensures.none
    c.digest-in-None.ensures
