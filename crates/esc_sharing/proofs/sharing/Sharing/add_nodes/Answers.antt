use Rattle.std.proofs.Common.{refl}
use Rattle.esc_sharing.proofs.AddedTerm.{mid_puts, mid_shared, put_notes}
use Rattle.esc_sharing.proofs.Becoming.{gathers_for}
use Rattle.esc_sharing.proofs.sharing.Sharing.add_nodes.Goals as goal

pub returns-clause-shared : goal.returns-clause-shared
returns-clause-shared g c =
    mid_shared g.T.Theory.sound g.T.Theory.admits g.T.Theory.numbers c.args.self.now
    (record c.args.self.now { graph = c.make_term.new.graph }) refl c.requires.shared
    c.in_ok-node.ensures.grown

pub returns-clause-puts : goal.returns-clause-puts
returns-clause-puts g c =
    mid_puts g.T.Theory.sound g.T.Theory.admits g.T.Theory.numbers c.args.self.now
    (record c.args.self.now { graph = c.make_term.new.graph }) refl c.requires.shared
    c.in_ok-node.ensures.grown c.args.term.now c.in_ok-node.ensures.terms

pub returns-clause-numbers : goal.returns-clause-numbers
returns-clause-numbers g c =
    gathers_for c.make_term.new.graph c.args.term.now c.args.side c.in_ok-node.node
    c.args.numbers.now.items c.make_term.new.numbers.items c.push_side.new.numbers.items
    c.in_ok-node.ensures.numbers c.in_ok-node.ensures.node c.in_ok-push_side.ensures

pub returns-clause-undo : goal.returns-clause-undo
returns-clause-undo g c =
    put_notes g.T.Undoable.undo g.met.T.Undoable.lawful
    g.R.CarriesNodes.carried_node g.R.CarriesGroups.carried_group g.R.CarriesShare.carried_share
    g.R.Carries.carried c.args.self.now
    (record c.args.self.now { graph = c.make_term.new.graph }) refl c.args.trail.now.records
    c.make_term.new.trail.records c.make_term.ensures.undo

pub returns-in_err-node-clause-undo : goal.returns-in_err-node-clause-undo
returns-in_err-node-clause-undo g c =
    put_notes g.T.Undoable.undo g.met.T.Undoable.lawful
    g.R.CarriesNodes.carried_node g.R.CarriesGroups.carried_group g.R.CarriesShare.carried_share
    g.R.Carries.carried c.args.self.now
    (record c.args.self.now { graph = c.make_term.new.graph }) refl c.args.trail.now.records
    c.make_term.new.trail.records c.make_term.ensures.undo

pub returns-in_err-push_side-clause-undo : goal.returns-in_err-push_side-clause-undo
returns-in_err-push_side-clause-undo g c =
    put_notes g.T.Undoable.undo g.met.T.Undoable.lawful
    g.R.CarriesNodes.carried_node g.R.CarriesGroups.carried_group g.R.CarriesShare.carried_share
    g.R.Carries.carried c.args.self.now
    (record c.args.self.now { graph = c.make_term.new.graph }) refl c.args.trail.now.records
    c.make_term.new.trail.records c.make_term.ensures.undo
