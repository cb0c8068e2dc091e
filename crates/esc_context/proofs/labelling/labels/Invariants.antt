use Rattle.std.proofs.Common.{[], take}
use Rattle.std.specs.List.{flat_map}
use Rattle.esc_fact.specs.Fact.{formulas_of}
use Rattle.esc_outcome.specs.Labels.{labels_in}
use Rattle.esc_sharing.specs.Nodes.{classes_in}
use Rattle.esc_context.specs.JudgingInside.{Labels}
use Rattle.esc_context.proofs.labelling.labels.Given as goal

abbrev pub invariant-facts : goal.invariant-facts
invariant-facts l = Labels [] l.labels.items
    (flat_map (labels_in l.fn.literals (classes_in l.fn.sharing.graph))
    (formulas_of l.fn.base (take l.fact-index l.fn.live)))
