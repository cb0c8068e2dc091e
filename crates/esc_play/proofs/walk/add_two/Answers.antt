use Rattle.esc_sharing.specs.SharingUndo.{part_carried}
use Rattle.esc_outcome.specs.JamLaws.{shared_in}
use Rattle.esc_play.proofs.Bringing.{brings_two, walks_both}
use Rattle.esc_play.proofs.walk.add_two.Goals as goal

pub returns-clause-brings : goal.returns-clause-brings
returns-clause-brings g c =
    brings_two (shared_in c.args.sharing.now) (shared_in c.add_nodes.new.self)
    (shared_in c.add_nodes-2.new.self) c.args.numbers.now.items c.add_nodes.new.numbers.items
    c.add_nodes-2.new.numbers.items c.args.left.now c.args.right.now c.args.order
    c.in_ok-add_nodes.ensures.shared c.in_ok-add_nodes.ensures.puts
    c.in_ok-add_nodes.ensures.numbers c.in_ok-add_nodes-2.ensures.shared
    c.in_ok-add_nodes-2.ensures.puts c.in_ok-add_nodes-2.ensures.numbers

pub returns-clause-walks : goal.returns-clause-walks
returns-clause-walks g c =
    walks_both (part_carried g.R.CarriesNodes.carried_node g.R.CarriesGroups.carried_group
    g.R.CarriesShare.carried_share g.R.Carries.carried) c.args.trail.now.records
    c.add_nodes.new.trail.records c.add_nodes-2.new.trail.records c.args.sharing.now
    c.add_nodes.new.self c.add_nodes-2.new.self
    (record { rest = c.add_nodes.ensures.rest; undo = c.add_nodes.ensures.undo })
    (record { rest = c.add_nodes-2.ensures.rest; undo = c.add_nodes-2.ensures.undo })

pub returns-in_err-add_nodes-2-clause-walks : goal.returns-in_err-add_nodes-2-clause-walks
returns-in_err-add_nodes-2-clause-walks g c =
    walks_both (part_carried g.R.CarriesNodes.carried_node g.R.CarriesGroups.carried_group
    g.R.CarriesShare.carried_share g.R.Carries.carried) c.args.trail.now.records
    c.add_nodes.new.trail.records c.add_nodes-2.new.trail.records c.args.sharing.now
    c.add_nodes.new.self c.add_nodes-2.new.self
    (record { rest = c.add_nodes.ensures.rest; undo = c.add_nodes.ensures.undo })
    (record { rest = c.add_nodes-2.ensures.rest; undo = c.add_nodes-2.ensures.undo })
