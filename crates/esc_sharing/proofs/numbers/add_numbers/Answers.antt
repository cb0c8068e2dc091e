use Rattle.std.proofs.Common.{◌<◌, [], ◌∷◌, ◌++◌, rules, refl, sym, subst, arith}
use Rattle.std.proofs.lemmas.List.Elements.{All-nil, All-push}
use Rattle.std.specs.Prelude.{IfErr}
use Rattle.std.specs.List.{Contains}
use Rattle.esc_sharing.specs.Stops.{UnlessMemory}
use Rattle.esc_trail.proofs.Noting.{notes_both, notes_nothing}
use Rattle.esc_sharing.specs.Calls.{terms_at}
use Rattle.esc_sharing.specs.Calls.{AddsNumbers}
use Rattle.esc_sharing.specs.Nodes.{node_count, node_term}
use Rattle.esc_sharing.specs.Numbers.{AreNumbersOf, IsNumber, number_terms, with_number}
use Rattle.esc_sharing.proofs.AddedNumbers.{adds_nothing, adds_then, admits_both, admits_nothing}
use Rattle.esc_sharing.proofs.AddedNumbers.{all-step, either_way, made_wider, named_here}
use Rattle.esc_sharing.proofs.AddedNumbers.{number_now, number_stays_then, numbers_of_then}
use Rattle.esc_sharing.proofs.AddedNumbers.{stop_wider, terms_then}
use Rattle.esc_sharing.proofs.SharingNotes.{made_both, made_nothing}
use Rattle.esc_sharing.proofs.numbers.add_numbers.Goals as goal

pub nodes-init : goal.nodes-init
nodes-init g c = record {
  all = λ i d l. absurd (omega (arith, l));
  of = c.requires.numbers;
  numbers = adds_nothing (g.T.Theory.numbers c.args.theory.now) _;
  admits = admits_nothing (g.T.Theory.admits c.args.theory.now);
  sound = c.requires.sound;
  made = made_nothing (g.T.Theory.made c.args.theory.now) _;
  undo = notes_nothing g.T.Undoable.undo g.R.Carries.carried c.args.trail.now.records
      c.args.trail.now.records c.args.theory.now c.args.theory.now refl
      (g.met.T.Undoable.lawful.reflexive c.args.theory.now);
}

pub nodes-preserved : goal.nodes-preserved
nodes-preserved g c =
    let v = c.nodes.theory in
    let now = c.add_node.new.self in
    let numbers = g.T.Theory.numbers v in
    let a = c.index-nodes-place.result in
    let first = g.T.Theory.numbers c.args.theory.now in
    let terms = terms_at c.args.graph.now c.args.nodes.now in
    let there : a < node_count c.args.graph.now =
    subst (λ n. n < node_count c.args.graph.now) (sym c.index-nodes-place.is)
    (c.requires.nodes c.nodes.place a (omega arith)) in
    let named = named_here c.args.graph.now c.args.nodes.now c.nodes.place a (omega arith)
    c.index-nodes-place.is in
    record {
      all = all-step c.args.graph.now c.args.nodes.now c.nodes.place a (omega arith)
          c.index-nodes-place.is numbers (g.T.Theory.numbers now)
          (λ n h. subst (λ ns. IsNumber ns n) (sym c.in_ok-add_node.ensures.ok)
          (number_stays_then c.args.graph.now numbers a there n h))
          (subst (λ ns. IsNumber ns a) (sym c.in_ok-add_node.ensures.ok)
          (number_now c.args.graph.now numbers a there)) c.nodes.invariant.all;
      of = either_way (AreNumbersOf c.args.graph.now) numbers
          (with_number numbers a (node_term c.args.graph.now a)) (g.T.Theory.numbers now)
          c.add_node.result c.add_node.ensures.ok c.add_node.ensures.err
          (c.nodes.invariant.of)
          (numbers_of_then c.args.graph.now numbers a there c.nodes.invariant.of);
      numbers = either_way (λ ns. AddsNumbers first ns terms) numbers
          (with_number numbers a (node_term c.args.graph.now a)) (g.T.Theory.numbers now)
          c.add_node.result c.add_node.ensures.ok c.add_node.ensures.err
          (c.nodes.invariant.numbers)
          (adds_then c.args.graph.now numbers a there first terms named c.nodes.invariant.numbers);
      admits = admits_both (g.T.Theory.admits c.args.theory.now) (g.T.Theory.admits v)
          (g.T.Theory.admits now) c.nodes.invariant.admits c.add_node.ensures.admits;
      sound = c.add_node.ensures.sound;
      made = made_both (g.T.Theory.made c.args.theory.now) (g.T.Theory.made v) (g.T.Theory.made now)
          (number_terms first ++ terms) c.nodes.invariant.made
          (made_wider (g.T.Theory.made v) (g.T.Theory.made now)
          (number_terms (with_number numbers a (node_term c.args.graph.now a)))
          (number_terms first ++ terms) (terms_then first
          (with_number numbers a (node_term c.args.graph.now a)) terms
          (adds_then c.args.graph.now numbers a there first terms named c.nodes.invariant.numbers))
          c.add_node.ensures.made);
      undo = notes_both g.T.Undoable.undo g.met.T.Undoable.lawful g.R.Carries.carried
          c.args.trail.now.records c.nodes.trail.records c.add_node.new.trail.records
          c.args.theory.now v now c.nodes.invariant.undo c.add_node.ensures.undo;
    }

pub returns-in_err-add_node-clause-of : goal.returns-in_err-add_node-clause-of
returns-in_err-add_node-clause-of g c =
    let v = c.nodes.theory in
    let now = c.add_node.new.self in
    let numbers = g.T.Theory.numbers v in
    let a = c.index-nodes-place.result in
    let first = g.T.Theory.numbers c.args.theory.now in
    let terms = terms_at c.args.graph.now c.args.nodes.now in
    let there : a < node_count c.args.graph.now =
    subst (λ n. n < node_count c.args.graph.now) (sym c.index-nodes-place.is)
    (c.requires.nodes c.nodes.place a (omega arith)) in
    let named = named_here c.args.graph.now c.args.nodes.now c.nodes.place a (omega arith)
    c.index-nodes-place.is in
    either_way (AreNumbersOf c.args.graph.now) numbers
    (with_number numbers a (node_term c.args.graph.now a)) (g.T.Theory.numbers now)
    c.add_node.result c.add_node.ensures.ok c.add_node.ensures.err
    (c.nodes.invariant.of)
    (numbers_of_then c.args.graph.now numbers a there c.nodes.invariant.of)

pub returns-in_err-add_node-clause-numbers : goal.returns-in_err-add_node-clause-numbers
returns-in_err-add_node-clause-numbers g c =
    let v = c.nodes.theory in
    let now = c.add_node.new.self in
    let numbers = g.T.Theory.numbers v in
    let a = c.index-nodes-place.result in
    let first = g.T.Theory.numbers c.args.theory.now in
    let terms = terms_at c.args.graph.now c.args.nodes.now in
    let there : a < node_count c.args.graph.now =
    subst (λ n. n < node_count c.args.graph.now) (sym c.index-nodes-place.is)
    (c.requires.nodes c.nodes.place a (omega arith)) in
    let named = named_here c.args.graph.now c.args.nodes.now c.nodes.place a (omega arith)
    c.index-nodes-place.is in
    either_way (λ ns. AddsNumbers first ns terms) numbers
    (with_number numbers a (node_term c.args.graph.now a)) (g.T.Theory.numbers now)
    c.add_node.result c.add_node.ensures.ok c.add_node.ensures.err
    (c.nodes.invariant.numbers)
    (adds_then c.args.graph.now numbers a there first terms named c.nodes.invariant.numbers)

pub returns-in_err-add_node-clause-admits : goal.returns-in_err-add_node-clause-admits
returns-in_err-add_node-clause-admits g c =
    let v = c.nodes.theory in
    let now = c.add_node.new.self in
    admits_both (g.T.Theory.admits c.args.theory.now) (g.T.Theory.admits v)
    (g.T.Theory.admits now) c.nodes.invariant.admits c.add_node.ensures.admits

pub returns-in_err-add_node-clause-made : goal.returns-in_err-add_node-clause-made
returns-in_err-add_node-clause-made g c =
    let v = c.nodes.theory in
    let now = c.add_node.new.self in
    let numbers = g.T.Theory.numbers v in
    let a = c.index-nodes-place.result in
    let first = g.T.Theory.numbers c.args.theory.now in
    let terms = terms_at c.args.graph.now c.args.nodes.now in
    let there : a < node_count c.args.graph.now =
    subst (λ n. n < node_count c.args.graph.now) (sym c.index-nodes-place.is)
    (c.requires.nodes c.nodes.place a (omega arith)) in
    let named = named_here c.args.graph.now c.args.nodes.now c.nodes.place a (omega arith)
    c.index-nodes-place.is in
    made_both (g.T.Theory.made c.args.theory.now) (g.T.Theory.made v) (g.T.Theory.made now)
    (number_terms first ++ terms) c.nodes.invariant.made
    (made_wider (g.T.Theory.made v) (g.T.Theory.made now)
    (number_terms (with_number numbers a (node_term c.args.graph.now a)))
    (number_terms first ++ terms) (terms_then first
    (with_number numbers a (node_term c.args.graph.now a)) terms
    (adds_then c.args.graph.now numbers a there first terms named c.nodes.invariant.numbers))
    c.add_node.ensures.made)

pub returns-in_err-add_node-clause-undo : goal.returns-in_err-add_node-clause-undo
returns-in_err-add_node-clause-undo g c =
    let v = c.nodes.theory in
    let now = c.add_node.new.self in
    notes_both g.T.Undoable.undo g.met.T.Undoable.lawful g.R.Carries.carried
    c.args.trail.now.records c.nodes.trail.records c.add_node.new.trail.records
    c.args.theory.now v now c.nodes.invariant.undo c.add_node.ensures.undo

pub returns-in_err-add_node-clause-stop : goal.returns-in_err-add_node-clause-stop
returns-in_err-add_node-clause-stop g c =
    let v = c.nodes.theory in
    let now = c.add_node.new.self in
    let numbers = g.T.Theory.numbers v in
    let a = c.index-nodes-place.result in
    let first = g.T.Theory.numbers c.args.theory.now in
    let terms = terms_at c.args.graph.now c.args.nodes.now in
    let there : a < node_count c.args.graph.now =
    subst (λ n. n < node_count c.args.graph.now) (sym c.index-nodes-place.is)
    (c.requires.nodes c.nodes.place a (omega arith)) in
    let named = named_here c.args.graph.now c.args.nodes.now c.nodes.place a (omega arith)
    c.index-nodes-place.is in
    let wide : IfErr c.add_node.result (UnlessMemory (g.T.Theory.barred now terms
    (number_terms first ++ terms))) =
    stop_wider g.T.Theory.barred g.met.T.Theory.barred_by_more now
    (node_term c.args.graph.now a ∷ []) terms
    (number_terms (with_number numbers a (node_term c.args.graph.now a)))
    (number_terms first ++ terms)
    (All-push (Contains terms) [] (node_term c.args.graph.now a) (All-nil (Contains terms)) named)
    (terms_then first (with_number numbers a (node_term c.args.graph.now a)) terms
    (adds_then c.args.graph.now numbers a there first terms named c.nodes.invariant.numbers))
    c.add_node.result c.add_node.ensures.stop in
    search rules

pub returns-clause-all : goal.returns-clause-all
returns-clause-all g c i d l = c.nodes.invariant.all i d (omega (arith, l))
