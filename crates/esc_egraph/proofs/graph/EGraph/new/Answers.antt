use Rattle.std.proofs.Common.{sym, subst}
use Rattle.esc_egraph.specs.Congruence.{IsMet}
use Rattle.esc_egraph.proofs.Broken.{IsMet-empty}
use Rattle.esc_egraph.proofs.graph.EGraph.new.Goals as goal

pub returns-clause-met : goal.returns-clause-met
returns-clause-met c = subst IsMet (sym c.new.ensures.empty) IsMet-empty
