use Rattle.std.proofs.Common.{[], ap}
use Rattle.std.specs.Prelude.{Ok}
use Rattle.esc_sharing.proofs.Joined.{join_keeps}
use Rattle.esc_sharing.proofs.LiteralSteps.{equal_step}
use Rattle.esc_sharing.proofs.sharing.Sharing.take_equal.Goals as goal

pub returns-in-Ok-clause-ends : goal.returns-in-Ok-clause-ends
returns-in-Ok-clause-ends g c =
    equal_step g.T.Theory.sound g.T.Theory.admits g.T.Theory.numbers c.args.self.now
    c.equate.new.self c.args.a c.args.b c.requires.asserting c.equate.ensures.rest
    c.equate.ensures.others c.in-Ok.ensures.least c.in-Ok.ensures.graph c.in-Ok.state (λ e. c.in-Ok.ensures.open (ap Ok e))
    (λ e. c.in-Ok.ensures.closed (ap Ok e))

pub returns-in-Ok-clause-keeps : goal.returns-in-Ok-clause-keeps
returns-in-Ok-clause-keeps g c =
    join_keeps g.T.Undoable.undo g.met.T.Undoable.lawful g.R.CarriesNodes.carried_node
    g.R.CarriesGroups.carried_group g.R.CarriesShare.carried_share g.R.Carries.carried
    g.T.Theory.sound g.T.Theory.numbers g.T.Theory.made c.args.self.now c.equate.new.self
    c.equate.ensures.rest c.equate.ensures.others c.args.trail.now.records
    c.equate.new.trail.records c.requires.asserting.shared.parts.sound c.equate.ensures.undo

pub returns-in-Err-clause-keeps : goal.returns-in-Err-clause-keeps
returns-in-Err-clause-keeps g c =
    join_keeps g.T.Undoable.undo g.met.T.Undoable.lawful g.R.CarriesNodes.carried_node
    g.R.CarriesGroups.carried_group g.R.CarriesShare.carried_share g.R.Carries.carried
    g.T.Theory.sound g.T.Theory.numbers g.T.Theory.made c.args.self.now c.equate.new.self
    c.equate.ensures.rest c.equate.ensures.others c.args.trail.now.records
    c.equate.new.trail.records c.requires.asserting.shared.parts.sound c.equate.ensures.undo

pub equate-requires-clause-a_is_there : goal.equate-requires-clause-a_is_there
equate-requires-clause-a_is_there g c = c.requires.asserting.sides.first

pub equate-requires-clause-b_is_there : goal.equate-requires-clause-b_is_there
equate-requires-clause-b_is_there g c = c.requires.asserting.sides.second
