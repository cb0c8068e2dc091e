use Rattle.std.proofs.Common.{◌++◌, rules, subst, sym}
use Rattle.std.specs.Prelude.{IfErr}
use Rattle.esc_trail.proofs.Noting.{notes_both}
use Rattle.esc_sharing.specs.Calls.{AddsNumbers, AreNodesFor, StepEnds, becoming, terms_at}
use Rattle.esc_sharing.specs.Numbers.{AddsMade, number_terms}
use Rattle.esc_sharing.specs.SharingUndo.{part_carried, sharing_lawful, sharing_undo}
use Rattle.esc_sharing.specs.Stops.{UnlessMemory}
use Rattle.esc_sharing.proofs.AddedNumbers.{adds_nothing, stop_wider}
use Rattle.esc_sharing.proofs.AddedTerm.{call_err, call_made, call_numbers, call_ok, numbers_then}
use Rattle.esc_sharing.proofs.AddedTerm.{theory_still}
use Rattle.esc_sharing.proofs.Becoming.{nodes_for}
use Rattle.esc_sharing.proofs.SharingNotes.{made_nothing}
use Rattle.esc_sharing.proofs.sharing.Sharing.add_term.Goals as goal

pub make_arithmetic-requires-clause-nodes : goal.make_arithmetic-requires-clause-nodes
make_arithmetic-requires-clause-nodes g c =
    let become : AreNodesFor c.add_nodes.new.self.graph c.as_slice.result.now
    (becoming c.args.term.now c.args.side) =
    nodes_for c.add_nodes.new.self.graph (becoming c.args.term.now c.args.side)
    c.new-numbers.result.items c.add_nodes.new.numbers.items
    c.sort_unstable_by_key.new.self.items c.as_slice.result.now c.new-numbers.ensures.items
    c.in-Ok.ensures.numbers c.sort_unstable_by_key.ensures.permutation c.as_slice.ensures.value in
    become.there

-- ---- it ends

pub returns-clause-ends : goal.returns-clause-ends
returns-clause-ends g c =
    let become : AreNodesFor c.add_nodes.new.self.graph c.as_slice.result.now
    (becoming c.args.term.now c.args.side) =
    nodes_for c.add_nodes.new.self.graph (becoming c.args.term.now c.args.side)
    c.new-numbers.result.items c.add_nodes.new.numbers.items
    c.sort_unstable_by_key.new.self.items c.as_slice.result.now c.new-numbers.ensures.items
    c.in-Ok.ensures.numbers c.sort_unstable_by_key.ensures.permutation c.as_slice.ensures.value in
    call_ok g.T.Theory.sound g.T.Theory.admits g.T.Theory.numbers g.T.Theory.made
    c.args.self.now c.add_nodes.new.self c.add_nodes.ensures.rest c.args.term.now c.args.side
    c.as_slice.result.now become c.make_arithmetic.new.self
    c.make_arithmetic.ensures.keeps c.make_arithmetic.ensures.numbers c.in-Ok.ensures.puts
    c.in-Ok.node c.in-Ok.ensures.node c.in_ok-state.state
    (subst (StepEnds _ _) c.in_ok-state.was c.make_arithmetic.ensures.ends)
    c.in_ok-state.ensures.all

pub returns-clause-numbers : goal.returns-clause-numbers
returns-clause-numbers g c =
    let become : AreNodesFor c.add_nodes.new.self.graph c.as_slice.result.now
    (becoming c.args.term.now c.args.side) =
    nodes_for c.add_nodes.new.self.graph (becoming c.args.term.now c.args.side)
    c.new-numbers.result.items c.add_nodes.new.numbers.items
    c.sort_unstable_by_key.new.self.items c.as_slice.result.now c.new-numbers.ensures.items
    c.in-Ok.ensures.numbers c.sort_unstable_by_key.ensures.permutation c.as_slice.ensures.value in
    call_numbers g.T.Theory.sound g.T.Theory.admits g.T.Theory.numbers g.T.Theory.made
    c.args.self.now c.add_nodes.new.self c.add_nodes.ensures.rest c.args.term.now c.args.side
    c.as_slice.result.now become c.make_arithmetic.new.self
    c.make_arithmetic.ensures.keeps c.make_arithmetic.ensures.numbers

pub returns-clause-made : goal.returns-clause-made
returns-clause-made g c =
    let become : AreNodesFor c.add_nodes.new.self.graph c.as_slice.result.now
    (becoming c.args.term.now c.args.side) =
    nodes_for c.add_nodes.new.self.graph (becoming c.args.term.now c.args.side)
    c.new-numbers.result.items c.add_nodes.new.numbers.items
    c.sort_unstable_by_key.new.self.items c.as_slice.result.now c.new-numbers.ensures.items
    c.in-Ok.ensures.numbers c.sort_unstable_by_key.ensures.permutation c.as_slice.ensures.value in
    call_made g.T.Theory.sound g.T.Theory.admits g.T.Theory.numbers g.T.Theory.made
    c.args.self.now c.add_nodes.new.self c.add_nodes.ensures.rest c.args.term.now c.args.side
    c.as_slice.result.now become c.make_arithmetic.new.self
    c.make_arithmetic.ensures.keeps c.make_arithmetic.ensures.numbers

pub returns-clause-undo : goal.returns-clause-undo
returns-clause-undo g c =
    notes_both (sharing_undo g.T.Undoable.undo)
    (sharing_lawful g.T.Undoable.undo g.met.T.Undoable.lawful)
    (part_carried g.R.CarriesNodes.carried_node g.R.CarriesGroups.carried_group
    g.R.CarriesShare.carried_share g.R.Carries.carried) c.args.trail.now.records
    c.add_nodes.new.trail.records c.make_arithmetic.new.trail.records c.args.self.now
    c.add_nodes.new.self c.make_arithmetic.new.self c.add_nodes.ensures.undo
    c.make_arithmetic.ensures.undo

-- ---- it is stopped

pub returns-in_err-state-clause-ends : goal.returns-in_err-state-clause-ends
returns-in_err-state-clause-ends g c =
    let become : AreNodesFor c.add_nodes.new.self.graph c.as_slice.result.now
    (becoming c.args.term.now c.args.side) =
    nodes_for c.add_nodes.new.self.graph (becoming c.args.term.now c.args.side)
    c.new-numbers.result.items c.add_nodes.new.numbers.items
    c.sort_unstable_by_key.new.self.items c.as_slice.result.now c.new-numbers.ensures.items
    c.in-Ok.ensures.numbers c.sort_unstable_by_key.ensures.permutation c.as_slice.ensures.value in
    let ends = call_err g.T.Theory.sound g.T.Theory.admits g.T.Theory.numbers g.T.Theory.made
    c.args.self.now c.add_nodes.new.self c.add_nodes.ensures.rest c.args.term.now c.args.side
    c.as_slice.result.now become c.make_arithmetic.new.self
    c.make_arithmetic.ensures.keeps c.make_arithmetic.ensures.numbers c.in-Ok.ensures.puts
    c.in_err-state.field-0.0
    (subst (StepEnds _ _) c.in_err-state.was c.make_arithmetic.ensures.ends) in
    search rules

pub returns-in_err-state-clause-numbers : goal.returns-in_err-state-clause-numbers
returns-in_err-state-clause-numbers g c =
    let become : AreNodesFor c.add_nodes.new.self.graph c.as_slice.result.now
    (becoming c.args.term.now c.args.side) =
    nodes_for c.add_nodes.new.self.graph (becoming c.args.term.now c.args.side)
    c.new-numbers.result.items c.add_nodes.new.numbers.items
    c.sort_unstable_by_key.new.self.items c.as_slice.result.now c.new-numbers.ensures.items
    c.in-Ok.ensures.numbers c.sort_unstable_by_key.ensures.permutation c.as_slice.ensures.value in
    call_numbers g.T.Theory.sound g.T.Theory.admits g.T.Theory.numbers g.T.Theory.made
    c.args.self.now c.add_nodes.new.self c.add_nodes.ensures.rest c.args.term.now c.args.side
    c.as_slice.result.now become c.make_arithmetic.new.self
    c.make_arithmetic.ensures.keeps c.make_arithmetic.ensures.numbers

pub returns-in_err-state-clause-made : goal.returns-in_err-state-clause-made
returns-in_err-state-clause-made g c =
    let become : AreNodesFor c.add_nodes.new.self.graph c.as_slice.result.now
    (becoming c.args.term.now c.args.side) =
    nodes_for c.add_nodes.new.self.graph (becoming c.args.term.now c.args.side)
    c.new-numbers.result.items c.add_nodes.new.numbers.items
    c.sort_unstable_by_key.new.self.items c.as_slice.result.now c.new-numbers.ensures.items
    c.in-Ok.ensures.numbers c.sort_unstable_by_key.ensures.permutation c.as_slice.ensures.value in
    call_made g.T.Theory.sound g.T.Theory.admits g.T.Theory.numbers g.T.Theory.made
    c.args.self.now c.add_nodes.new.self c.add_nodes.ensures.rest c.args.term.now c.args.side
    c.as_slice.result.now become c.make_arithmetic.new.self
    c.make_arithmetic.ensures.keeps c.make_arithmetic.ensures.numbers

pub returns-in_err-state-clause-stop : goal.returns-in_err-state-clause-stop
returns-in_err-state-clause-stop g c =
    let become : AreNodesFor c.add_nodes.new.self.graph c.as_slice.result.now
    (becoming c.args.term.now c.args.side) =
    nodes_for c.add_nodes.new.self.graph (becoming c.args.term.now c.args.side)
    c.new-numbers.result.items c.add_nodes.new.numbers.items
    c.sort_unstable_by_key.new.self.items c.as_slice.result.now c.new-numbers.ensures.items
    c.in-Ok.ensures.numbers c.sort_unstable_by_key.ensures.permutation c.as_slice.ensures.value in
    let wide : IfErr c.make_arithmetic.result (UnlessMemory (g.T.Theory.barred
    c.make_arithmetic.new.self.theory (becoming c.args.term.now c.args.side)
    (number_terms (g.T.Theory.numbers c.args.self.now.theory)
    ++ becoming c.args.term.now c.args.side))) =
    stop_wider g.T.Theory.barred g.met.T.Theory.barred_by_more
    c.make_arithmetic.new.self.theory
    (terms_at c.add_nodes.new.self.graph c.as_slice.result.now)
    (becoming c.args.term.now c.args.side)
    (number_terms (g.T.Theory.numbers c.add_nodes.new.self.theory)
    ++ terms_at c.add_nodes.new.self.graph c.as_slice.result.now)
    (number_terms (g.T.Theory.numbers c.args.self.now.theory)
    ++ becoming c.args.term.now c.args.side) become.among
    (numbers_then g.T.Theory.sound g.T.Theory.admits g.T.Theory.numbers g.T.Theory.made
    c.args.self.now c.add_nodes.new.self c.add_nodes.ensures.rest c.args.term.now c.args.side
    c.as_slice.result.now become)
    c.make_arithmetic.result c.make_arithmetic.ensures.stop in
    search rules

pub returns-in_err-state-clause-undo : goal.returns-in_err-state-clause-undo
returns-in_err-state-clause-undo g c =
    notes_both (sharing_undo g.T.Undoable.undo)
    (sharing_lawful g.T.Undoable.undo g.met.T.Undoable.lawful)
    (part_carried g.R.CarriesNodes.carried_node g.R.CarriesGroups.carried_group
    g.R.CarriesShare.carried_share g.R.Carries.carried) c.args.trail.now.records
    c.add_nodes.new.trail.records c.make_arithmetic.new.trail.records c.args.self.now
    c.add_nodes.new.self c.make_arithmetic.new.self c.add_nodes.ensures.undo
    c.make_arithmetic.ensures.undo

-- ---- memory is wanting

pub returns-in_default-clause-numbers : goal.returns-in_default-clause-numbers
returns-in_default-clause-numbers g c =
    subst (λ theory. AddsNumbers (g.T.Theory.numbers c.args.self.now.theory)
    (g.T.Theory.numbers theory) (becoming c.args.term.now c.args.side))
    (sym (theory_still c.args.self.now c.add_nodes.new.self c.add_nodes.ensures.rest))
    (adds_nothing (g.T.Theory.numbers c.args.self.now.theory)
    (becoming c.args.term.now c.args.side))

pub returns-in_default-clause-sound : goal.returns-in_default-clause-sound
returns-in_default-clause-sound g c =
    subst g.T.Theory.sound
    (sym (theory_still c.args.self.now c.add_nodes.new.self c.add_nodes.ensures.rest))
    c.requires.shared.parts.sound

pub returns-in_default-clause-made : goal.returns-in_default-clause-made
returns-in_default-clause-made g c =
    subst (λ theory. AddsMade (g.T.Theory.made c.args.self.now.theory) (g.T.Theory.made theory)
    (number_terms (g.T.Theory.numbers c.args.self.now.theory)
    ++ becoming c.args.term.now c.args.side))
    (sym (theory_still c.args.self.now c.add_nodes.new.self c.add_nodes.ensures.rest))
    (made_nothing _ _)
