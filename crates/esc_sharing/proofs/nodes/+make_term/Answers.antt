use Rattle.std.proofs.Common.{◌≡◌, ◌++◌, ap, arith, rules, sym, ◌∙◌}
use Rattle.std.specs.List.{fold}
use Rattle.esc_term.specs.Term.{is_ground, subterms, with_once}
use Rattle.esc_trail.proofs.Lawful.{equal_is_lawful}
use Rattle.esc_trail.proofs.Noting.{notes_both}
use Rattle.esc_egraph.specs.GraphUndo.{CanGoBack, graph_back, graph_undo}
use Rattle.esc_node_terms.proofs.TermSize.{falls-args, falls-item, term_size}
use Rattle.esc_node_terms.proofs.Walking.{args_are_ground, brought_more, each_passes}
use Rattle.esc_sharing.specs.AddingInside.{named_nodes}
use Rattle.esc_sharing.specs.Nodes.{node_term, terms_in}
use Rattle.esc_sharing.proofs.Gathered.{gathers-Num, gathers_made, gathers_more, node_made}
use Rattle.esc_sharing.proofs.Gathered.{nodes_more, terms_made}
use Rattle.esc_sharing.proofs.Growing.{grown_both}
use Rattle.esc_sharing.proofs.nodes.+make_term.Goals as goal

-- ---- the arguments

pub make_term-make_terms-requires : goal.make_term-make_terms-requires
make_term-make_terms-requires g t c κs =
    let falls = falls-args c.args.term.now c.in-App.head c.in-App.args c.as_slice.result.now
    c.in-App.is c.as_slice.ensures in
    let ground = args_are_ground c.args.term.now c.in-App.head c.in-App.args c.as_slice.result.now
    c.in-App.is c.as_slice.ensures c.requires.ground in
    λ lives. (omega arith, (λ a m. lives a m, (c.requires.met, ground)))

pub make_terms-make_term-requires : goal.make_terms-make_term-requires
make_terms-make_term-requires g t c κs =
    let falls = falls-item term_size c.args.terms.now c.terms.term-index c.term-item.result
    c.terms-test.true c.term-item.is in
    let ground = each_passes is_ground c.args.terms.now c.terms.term-index c.term-item.result
    c.terms-test.true c.term-item.is c.requires.ground in
    λ lives. (omega arith, (λ a m. lives a m, (c.terms.invariant.grown.met, ground)))

-- ---- a numeral

pub make_term-returns-in_ok-push-in-Num-clause-numbers :
    goal.make_term-returns-in_ok-push-in-Num-clause-numbers
make_term-returns-in_ok-push-in-Num-clause-numbers g t c =
    let is : node_term c.make_node.new.graph c.in_ok-node-in-Num.node ≡ c.args.term.now =
    search rules in
    gathers-Num c.make_node.new.graph.nodes c.args.numbers.now.items c.push.new.self.items
    c.in_ok-node-in-Num.node c.in-Num.n c.args.term.now c.in-Num.is
    c.in_ok-node-in-Num.ensures.node.there is c.in_ok-push-in-Num.ensures.items

-- ---- an application

pub make_term-returns-in_ok-gather-in-App-clause-grown :
    goal.make_term-returns-in_ok-gather-in-App-clause-grown
make_term-returns-in_ok-gather-in-App-clause-grown g t c =
    grown_both c.args.graph.now c.make_terms.new.graph c.make_node-in-App.new.graph
    c.in_ok-nodes-in-App.ensures.grown c.in_ok-node-in-App.ensures.grown

pub make_term-returns-in_ok-gather-in-App-clause-terms :
    goal.make_term-returns-in_ok-gather-in-App-clause-terms
make_term-returns-in_ok-gather-in-App-clause-terms g t c =
    terms_made c.args.graph.now c.make_terms.new.graph c.make_node-in-App.new.graph
    c.in-App.head c.in_ok-nodes-in-App.nodes.items c.as_slice-in-App.result.now c.in-App.args
    c.as_slice.result.now c.args.term.now c.in_ok-node-in-App.node c.as_slice-in-App.ensures.value
    c.in_ok-nodes-in-App.ensures.nodes c.as_slice.ensures c.in-App.is
    c.in_ok-nodes-in-App.ensures.terms c.in_ok-node-in-App.ensures.terms

pub make_term-returns-in_ok-gather-in-App-clause-node :
    goal.make_term-returns-in_ok-gather-in-App-clause-node
make_term-returns-in_ok-gather-in-App-clause-node g t c =
    node_made c.args.graph.now c.make_terms.new.graph c.make_node-in-App.new.graph
    c.in-App.head c.in_ok-nodes-in-App.nodes.items c.as_slice-in-App.result.now c.in-App.args
    c.as_slice.result.now c.args.term.now c.in_ok-node-in-App.node c.as_slice-in-App.ensures.value
    c.in_ok-nodes-in-App.ensures.nodes c.as_slice.ensures c.in-App.is
    c.in_ok-node-in-App.ensures.node

pub make_term-returns-in_ok-gather-in-App-clause-numbers :
    goal.make_term-returns-in_ok-gather-in-App-clause-numbers
make_term-returns-in_ok-gather-in-App-clause-numbers g t c =
    gathers_made c.args.graph.now c.make_terms.new.graph c.make_node-in-App.new.graph
    c.in-App.head c.in_ok-nodes-in-App.nodes.items c.as_slice-in-App.result.now c.in-App.args
    c.as_slice.result.now c.args.term.now c.in_ok-node-in-App.node c.as_slice-in-App.ensures.value
    c.in_ok-nodes-in-App.ensures.nodes c.as_slice.ensures c.in-App.is
    c.args.numbers.now.items c.make_terms.new.numbers.items c.gather.new.numbers.items
    c.in_ok-node-in-App.ensures.grown c.in_ok-node-in-App.ensures.node
    c.in_ok-nodes-in-App.ensures.numbers
    (c.in_ok-gather-in-App.ensures
    ∙ ap (λ xs. c.make_terms.new.numbers.items
    ++ named_nodes c.in-App.head xs c.in_ok-node-in-App.node)
    (c.as_slice-in-App-2.ensures.value ∙ sym c.as_slice-in-App.ensures.value))

-- ---- records

pub make_term-returns-in_ok-gather-in-App-clause-undo :
    goal.make_term-returns-in_ok-gather-in-App-clause-undo
make_term-returns-in_ok-gather-in-App-clause-undo g t c =
    notes_both graph_undo (equal_is_lawful graph_back CanGoBack) g.R.CarriesNodes.carried_node
    c.args.trail.now.records c.make_terms.new.trail.records c.make_node-in-App.new.trail.records
    c.args.graph.now c.make_terms.new.graph c.make_node-in-App.new.graph c.make_terms.ensures.undo
    c.make_node-in-App.ensures.undo

pub make_term-returns-in_err-node-in-App-clause-undo :
    goal.make_term-returns-in_err-node-in-App-clause-undo
make_term-returns-in_err-node-in-App-clause-undo g t c =
    notes_both graph_undo (equal_is_lawful graph_back CanGoBack) g.R.CarriesNodes.carried_node
    c.args.trail.now.records c.make_terms.new.trail.records c.make_node-in-App.new.trail.records
    c.args.graph.now c.make_terms.new.graph c.make_node-in-App.new.graph c.make_terms.ensures.undo
    c.make_node-in-App.ensures.undo

pub make_term-returns-in_err-gather-in-App-clause-undo :
    goal.make_term-returns-in_err-gather-in-App-clause-undo
make_term-returns-in_err-gather-in-App-clause-undo g t c =
    notes_both graph_undo (equal_is_lawful graph_back CanGoBack) g.R.CarriesNodes.carried_node
    c.args.trail.now.records c.make_terms.new.trail.records c.make_node-in-App.new.trail.records
    c.args.graph.now c.make_terms.new.graph c.make_node-in-App.new.graph c.make_terms.ensures.undo
    c.make_node-in-App.ensures.undo

pub make_terms-returns-in_err-node-clause-undo : goal.make_terms-returns-in_err-node-clause-undo
make_terms-returns-in_err-node-clause-undo g t c =
    notes_both graph_undo (equal_is_lawful graph_back CanGoBack) g.R.CarriesNodes.carried_node
    c.args.trail.now.records c.terms.trail.records c.make_term.new.trail.records
    c.args.graph.now c.terms.graph c.make_term.new.graph c.terms.invariant.undo
    c.make_term.ensures.undo

pub make_terms-returns-in_err-push-clause-undo : goal.make_terms-returns-in_err-push-clause-undo
make_terms-returns-in_err-push-clause-undo g t c =
    notes_both graph_undo (equal_is_lawful graph_back CanGoBack) g.R.CarriesNodes.carried_node
    c.args.trail.now.records c.terms.trail.records c.make_term.new.trail.records
    c.args.graph.now c.terms.graph c.make_term.new.graph c.terms.invariant.undo
    c.make_term.ensures.undo

-- ---- in order

pub make_terms-terms-preserved : goal.make_terms-terms-preserved
make_terms-terms-preserved g t c = record {
  grown = grown_both c.args.graph.now c.terms.graph c.make_term.new.graph c.terms.invariant.grown
      c.in_ok-node.ensures.grown;
  terms = c.in_ok-node.ensures.terms
      ∙ (ap (λ seen. fold with_once seen (subterms c.term-item.result)) c.terms.invariant.terms
      ∙ sym (brought_more subterms (terms_in c.args.graph.now) c.args.terms.now
      c.terms.term-index c.term-item.result c.terms-test.true c.term-item.is));
  nodes = nodes_more c.terms.graph c.make_term.new.graph c.in_ok-node.ensures.grown
      c.terms.nodes.items c.push.new.self.items c.args.terms.now c.terms.term-index
      c.in_ok-node.node c.term-item.result c.terms-test.true c.term-item.is
      c.in_ok-push.ensures.items c.terms.invariant.nodes c.in_ok-node.ensures.node;
  numbers = gathers_more c.terms.graph c.make_term.new.graph c.in_ok-node.ensures.grown
      c.args.numbers.now.items c.terms.numbers.items c.make_term.new.numbers.items
      c.args.terms.now c.terms.term-index c.term-item.result c.terms-test.true c.term-item.is
      c.terms.invariant.numbers c.in_ok-node.ensures.numbers;
  undo = notes_both graph_undo (equal_is_lawful graph_back CanGoBack)
      g.R.CarriesNodes.carried_node c.args.trail.now.records c.terms.trail.records
      c.make_term.new.trail.records c.args.graph.now c.terms.graph c.make_term.new.graph
      c.terms.invariant.undo c.make_term.ensures.undo;
}
