use Rattle.std.proofs.Common.{◌≡◌, ◌<◌, List, [], length, get_or, refl, sym, subst}
use Rattle.std.specs.Prelude.{IfSome}
use Rattle.std.proofs.lemmas.List.Elements.{All-get_or}
use Rattle.esc_egraph.specs.Graph.{Graph}
use Rattle.esc_fact.specs.Fact.{IsFact, formula_of}
use Rattle.esc_fact.specs.declared.fact.Fact.{Fact}
use Rattle.esc_outcome.specs.Labels.{labels_in}
use Rattle.esc_sharing.specs.Nodes.{classes_in}
use Rattle.esc_context.specs.JudgingInside.{Labels}
use Rattle.esc_context.proofs.FactLabels.{fact_labelled}
use Rattle.esc_context.proofs.labelling.labels.Goals as goal

pub labelled_fact-requires-clause-judge : goal.labelled_fact-requires-clause-judge
labelled_fact-requires-clause-judge c =
    c.saying_laws.ensures c.args.sharing.now _ c.args.literals.now
    (record { graph = c.graph.ensures; groups = c.groups.ensures; asserted = c.asserted.ensures })
    c.requires.left.shared c.requires.left.asserted

pub facts-preserved : goal.facts-preserved
facts-preserved c =
    let base = c.args.base.now in
    let live = c.args.live.now in
    let literals = c.args.literals.now in
    let fact = c.fact-item.result in
    let i = c.facts.fact-index in
    let whole : c.as_slice-fact-items.result.now ≡ live = c.as_slice-fact-items.ensures in
    let inside : i < length live =
    subst (λ (facts : List Fact). i < length facts) whole c.facts-test.true in
    let read : fact ≡ get_or live i fact =
    subst (λ (facts : List Fact). fact ≡ get_or facts i fact) whole c.fact-item.is in
    let is_fact : IsFact base fact =
    subst (IsFact base) (sym read)
    (All-get_or (IsFact base) live i fact inside c.requires.left.are_facts) in
    fact_labelled base live i fact inside read
    (labels_in literals (classes_in c.args.sharing.now.graph)) [] c.facts.labels.items
    c.labelled_fact.new.labels.items c.facts.invariant (formula_of base fact) refl is_fact.named
    (subst (λ (g : Graph). IfSome (formula_of base fact) (λ f. Labels c.facts.labels.items
    c.labelled_fact.new.labels.items (labels_in literals (classes_in g) f))) c.graph.ensures
    c.in_ok-labelled_fact.ensures)
