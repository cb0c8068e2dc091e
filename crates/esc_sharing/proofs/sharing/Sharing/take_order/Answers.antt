use Rattle.esc_sharing.proofs.LiteralSteps.{order_step}
use Rattle.esc_sharing.proofs.SharingNotes.{keeps_theory}
use Rattle.esc_sharing.proofs.sharing.Sharing.take_order.Goals as goal

pub returns-clause-ends : goal.returns-clause-ends
returns-clause-ends g c =
    order_step g.T.Theory.sound g.T.Theory.admits g.T.Theory.numbers c.args.self.now c.args.lit
    c.requires.asserting c.requires.order c.assert.new.self c.assert.ensures.numbers
    c.assert.ensures.sound c.assert.result c.assert.ensures.ends

pub returns-clause-keeps : goal.returns-clause-keeps
returns-clause-keeps g c =
    keeps_theory g.T.Undoable.undo g.met.T.Undoable.lawful g.R.CarriesNodes.carried_node
    g.R.CarriesGroups.carried_group g.R.CarriesShare.carried_share g.R.Carries.carried
    g.T.Theory.sound g.T.Theory.numbers g.T.Theory.made c.args.trail.now.records
    c.assert.new.trail.records c.args.self.now c.assert.new.self c.assert.ensures.sound
    c.assert.ensures.numbers c.assert.ensures.made c.assert.ensures.undo
