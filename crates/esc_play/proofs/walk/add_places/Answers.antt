use Rattle.std.proofs.Common.{false}
use Rattle.esc_term.specs.Term.{subterms}
use Rattle.esc_sharing.specs.SharingUndo.{part_carried}
use Rattle.esc_outcome.specs.JamLaws.{shared_in}
use Rattle.esc_play.proofs.Bringing.{brings_nothing, brings_place, brings_term, walks_both}
use Rattle.esc_play.proofs.Bringing.{walks_nothing}
use Rattle.esc_play.proofs.walk.add_places.Goals as goal

pub terms-init : goal.terms-init
terms-init g c = record {
  brings = brings_nothing (shared_in c.args.sharing.now) c.args.numbers.now.items
      c.requires.shared;
  walks = walks_nothing (part_carried g.R.CarriesNodes.carried_node
      g.R.CarriesGroups.carried_group g.R.CarriesShare.carried_share g.R.Carries.carried)
      c.args.trail.now.records c.args.sharing.now;
}

pub terms-preserved : goal.terms-preserved
terms-preserved g c = record {
  brings = brings_place c.args.terms.now c.terms.term-index c.term-item.result
      c.terms-test.true c.term-item.is (shared_in c.args.sharing.now)
      (shared_in c.terms.sharing) (shared_in c.add_nodes.new.self) c.args.numbers.now.items
      c.terms.numbers.items c.add_nodes.new.numbers.items subterms c.terms.invariant.brings
      (brings_term (shared_in c.terms.sharing) (shared_in c.add_nodes.new.self)
      c.terms.numbers.items c.add_nodes.new.numbers.items c.term-item.result false
      c.in_ok-add_nodes.ensures.shared c.in_ok-add_nodes.ensures.puts
      c.in_ok-add_nodes.ensures.numbers);
  walks = walks_both (part_carried g.R.CarriesNodes.carried_node g.R.CarriesGroups.carried_group
      g.R.CarriesShare.carried_share g.R.Carries.carried) c.args.trail.now.records
      c.terms.trail.records c.add_nodes.new.trail.records c.args.sharing.now c.terms.sharing
      c.add_nodes.new.self c.terms.invariant.walks
      (record { rest = c.add_nodes.ensures.rest; undo = c.add_nodes.ensures.undo });
}

pub returns-in_err-add_nodes-clause-walks : goal.returns-in_err-add_nodes-clause-walks
returns-in_err-add_nodes-clause-walks g c =
    walks_both (part_carried g.R.CarriesNodes.carried_node g.R.CarriesGroups.carried_group
    g.R.CarriesShare.carried_share g.R.Carries.carried) c.args.trail.now.records
    c.terms.trail.records c.add_nodes.new.trail.records c.args.sharing.now c.terms.sharing
    c.add_nodes.new.self c.terms.invariant.walks
    (record { rest = c.add_nodes.ensures.rest; undo = c.add_nodes.ensures.undo })
