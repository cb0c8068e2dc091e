use Rattle.std.proofs.Common.{[], ap}
use Rattle.esc_egraph.specs.Graph.{Graph}
use Rattle.esc_sharing.proofs.LiteralSteps.{apart_step}
use Rattle.esc_sharing.proofs.SharingNotes.{keeps_graph}
use Rattle.esc_sharing.proofs.sharing.Sharing.take_apart.Goals as goal

pub returns-in-Ok-clause-ends : goal.returns-in-Ok-clause-ends
returns-in-Ok-clause-ends g c =
    apart_step g.T.Theory.sound g.T.Theory.admits g.T.Theory.numbers c.args.self.now c.args.a
    c.args.b c.requires.asserting c.forbid.new.self c.in-Ok.ensures.ok c.in-Ok.state c.in-Ok.ensures.met c.in-Ok.ensures.closed.0

pub returns-in-Ok-clause-keeps : goal.returns-in-Ok-clause-keeps
returns-in-Ok-clause-keeps g c =
    keeps_graph g.T.Undoable.undo g.met.T.Undoable.lawful g.R.CarriesNodes.carried_node
    g.R.CarriesGroups.carried_group g.R.CarriesShare.carried_share g.R.Carries.carried
    g.T.Theory.sound g.T.Theory.numbers g.T.Theory.made c.args.trail.now.records
    c.forbid.new.trail.records c.args.self.now c.forbid.new.self
    c.requires.asserting.shared.parts.sound
    (ap (λ (graph : Graph). graph.nodes) c.in-Ok.ensures.ok) c.forbid.ensures.undo

pub returns-in-Err-clause-keeps : goal.returns-in-Err-clause-keeps
returns-in-Err-clause-keeps g c =
    keeps_graph g.T.Undoable.undo g.met.T.Undoable.lawful g.R.CarriesNodes.carried_node
    g.R.CarriesGroups.carried_group g.R.CarriesShare.carried_share g.R.Carries.carried
    g.T.Theory.sound g.T.Theory.numbers g.T.Theory.made c.args.trail.now.records
    c.forbid.new.trail.records c.args.self.now c.forbid.new.self
    c.requires.asserting.shared.parts.sound
    (ap (λ (graph : Graph). graph.nodes) c.in-Err.ensures.err) c.forbid.ensures.undo

pub forbid-requires-clause-a_is_there : goal.forbid-requires-clause-a_is_there
forbid-requires-clause-a_is_there g c = c.requires.asserting.sides.first

pub forbid-requires-clause-b_is_there : goal.forbid-requires-clause-b_is_there
forbid-requires-clause-b_is_there g c = c.requires.asserting.sides.second
