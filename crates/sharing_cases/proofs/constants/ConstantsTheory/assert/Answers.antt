use Rattle.std.proofs.Common.{Ok, true, false, sym, subst}
use Rattle.esc_cover.specs.Assignment.{asked}
use Rattle.esc_egraph.specs.declared.state.State.TheVariants.{Open}
use Rattle.esc_sharing.specs.Admitted.{RestrictEnds}
use Rattle.esc_sharing.specs.Literals.{item_of}
use Rattle.esc_sharing.specs.Nodes.{node_term}
use Rattle.esc_sharing.proofs.AskedOrders.{asked_apart, asked_at_most, asked_below, asked_equal}
use Rattle.sharing_cases.proofs.ConstantGaps.{Every, restricts, unrestricted}
use Rattle.sharing_cases.proofs.constants.ConstantsTheory.assert.Goals as goal

pub returns-in-Equal-clause-ends : goal.returns-in-Equal-clause-ends
returns-in-Equal-clause-ends g c =
    subst (λ l. RestrictEnds Every Every (asked (item_of c.args._graph.now l)) (Ok Open))
    (sym c.in-Equal.is)
    (subst (λ gaps. RestrictEnds Every Every gaps (Ok Open))
    (sym (asked_equal c.args._graph.now _ _)) unrestricted)

pub returns-in-Apart-clause-ends : goal.returns-in-Apart-clause-ends
returns-in-Apart-clause-ends g c =
    subst (λ l. RestrictEnds Every Every (asked (item_of c.args._graph.now l)) (Ok Open))
    (sym c.in-Apart.is)
    (subst (λ gaps. RestrictEnds Every Every gaps (Ok Open))
    (sym (asked_apart c.args._graph.now _ _)) unrestricted)

pub returns-in-Below-clause-ends : goal.returns-in-Below-clause-ends
returns-in-Below-clause-ends g c =
    let graph = c.args._graph.now in
    let r = c.gap_state.result in
    subst (λ l. RestrictEnds Every Every (asked (item_of graph l)) (Ok r)) (sym c.in-Below.is)
    (subst (λ gaps. RestrictEnds Every Every gaps (Ok r))
    (sym (asked_below graph c.in-Below.a c.in-Below.b))
    (restricts (node_term graph c.in-Below.b) (node_term graph c.in-Below.a) c.value.result.num
    c.value-in-Below.result.num (c.value.ensures graph c.requires.numbers)
    (c.value-in-Below.ensures graph c.requires.numbers) true r c.gap_state.ensures))

pub returns-in-AtMost-clause-ends : goal.returns-in-AtMost-clause-ends
returns-in-AtMost-clause-ends g c =
    let graph = c.args._graph.now in
    let r = c.gap_state-in-AtMost.result in
    subst (λ l. RestrictEnds Every Every (asked (item_of graph l)) (Ok r)) (sym c.in-AtMost.is)
    (subst (λ gaps. RestrictEnds Every Every gaps (Ok r))
    (sym (asked_at_most graph c.in-AtMost.a c.in-AtMost.b))
    (restricts (node_term graph c.in-AtMost.b) (node_term graph c.in-AtMost.a)
    c.value-in-AtMost.result.num c.value-in-AtMost-2.result.num
    (c.value-in-AtMost.ensures graph c.requires.numbers)
    (c.value-in-AtMost-2.ensures graph c.requires.numbers) false r c.gap_state-in-AtMost.ensures))
