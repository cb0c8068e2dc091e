use Rattle.std.proofs.Common.{IsTrue, ◌↔◌, subst}
use Rattle.esc_egraph.specs.Graph.{Graph}
use Rattle.esc_egraph.specs.Congruence.{ForcedApart}
use Rattle.esc_egraph.proofs.graph.EGraph.forced_apart.Goals as goal

pub returns : goal.returns
returns c = subst (λ (h : Graph). IsTrue c.forced_apart.result ↔ ForcedApart h c.args.a c.args.b)
    c.self.view_is c.forced_apart.ensures
