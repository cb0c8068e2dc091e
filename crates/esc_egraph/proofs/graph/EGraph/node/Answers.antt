use Rattle.std.proofs.Common.{◌<◌, ◌≤◌, length, All, sym, subst, ◌∙◌}
use Rattle.esc_egraph.specs.Graph.{Graph}
use Rattle.esc_egraph.specs.Congruence.{IsMet}
use Rattle.esc_egraph.proofs.graph.EGraph.node.Goals as goal

pub node-requires-clause-args_are_there : goal.node-requires-clause-args_are_there
node-requires-clause-args_are_there g c =
    subst (λ (h : Graph). All (λ a. a < length h.nodes) c.args.args.now)
    (sym (c.index.ensures.graph ∙ c.self.view_is)) c.requires.args_are_there

pub node-requires-clause-met : goal.node-requires-clause-met
node-requires-clause-met g c = subst IsMet (sym (c.index.ensures.graph ∙ c.self.view_is))
    c.requires.met

pub returns-clause-node : goal.returns-clause-node
returns-clause-node g c = rw (← c.self.view_is, ← c.index.ensures.graph) c.node.ensures.node

pub returns-clause-err : goal.returns-clause-err
returns-clause-err g c = rw (← c.self.view_is, ← c.index.ensures.graph) c.node.ensures.err

pub returns-clause-undo : goal.returns-clause-undo
returns-clause-undo g c = rw (← c.self.view_is, ← c.index.ensures.graph) c.node.ensures.undo

pub returns-clause-grown : goal.returns-clause-grown
returns-clause-grown g c =
    subst (λ (h : Graph). length h.nodes ≤ length c.node.new.self.nodes) (c.index.ensures.graph
    ∙ c.self.view_is) c.node.ensures.grown
