use Rattle.std.proofs.Common.{[], Ok, ap}
use Rattle.esc_sharing.specs.KnownInside.{AreKnownBy}
use Rattle.esc_sharing.specs.SettlingInside.{IsUnsettled}
use Rattle.esc_sharing.specs.Shared.{seen}
use Rattle.esc_sharing.proofs.Joined.{join_closed, join_fewer, join_keeps, join_open, step_ends}
use Rattle.esc_sharing.proofs.Labels.{know_joined, know_nodes}
use Rattle.esc_sharing.proofs.Least.{number_of_node}
use Rattle.esc_sharing.proofs.sharing.Sharing.join.Goals as goal

pub equate-requires-clause-a_is_there : goal.equate-requires-clause-a_is_there
equate-requires-clause-a_is_there g c =
    (number_of_node (seen g.T.Theory.sound g.T.Theory.admits g.T.Theory.numbers c.args.self.now)
    c.requires.unsettled.parts.numbers c.args.a c.requires.two.first).0

pub equate-requires-clause-b_is_there : goal.equate-requires-clause-b_is_there
equate-requires-clause-b_is_there g c =
    (number_of_node (seen g.T.Theory.sound g.T.Theory.admits g.T.Theory.numbers c.args.self.now)
    c.requires.unsettled.parts.numbers c.args.b c.requires.two.second).0

pub returns-in-Ok-clause-ends : goal.returns-in-Ok-clause-ends
returns-in-Ok-clause-ends g c =
    step_ends (seen g.T.Theory.sound g.T.Theory.admits g.T.Theory.numbers c.equate.new.self)
    (IsUnsettled (seen g.T.Theory.sound g.T.Theory.admits g.T.Theory.numbers c.equate.new.self)
    (AreKnownBy c.know.new.known)) c.in-Ok.state
    (λ e.
    let opened = c.in-Ok.ensures.open (ap Ok e) in
    join_open g.T.Theory.sound g.T.Theory.admits g.T.Theory.numbers c.args.self.now
    c.equate.new.self c.args.a c.args.b (AreKnownBy c.args.known.now) c.requires.unsettled
    c.requires.two c.requires.equal c.equate.ensures.rest c.equate.ensures.others
    c.in-Ok.ensures.least c.in-Ok.ensures.graph opened.0 opened.1 (AreKnownBy c.know.new.known)
    (know_joined c.args.known.now c.know.new.known c.args.a c.args.b c.know.ensures))
    (λ e. join_closed g.T.Theory.sound g.T.Theory.admits g.T.Theory.numbers c.args.self.now
    c.equate.new.self c.args.a c.args.b (AreKnownBy c.args.known.now) c.requires.unsettled
    c.requires.two c.requires.equal c.equate.ensures.rest c.equate.ensures.others
    c.in-Ok.ensures.least c.in-Ok.ensures.graph (c.in-Ok.ensures.closed (ap Ok e)))

pub returns-in-Ok-clause-fewer : goal.returns-in-Ok-clause-fewer
returns-in-Ok-clause-fewer g c e =
    join_fewer g.T.Theory.sound g.T.Theory.admits g.T.Theory.numbers c.args.self.now
    c.equate.new.self c.args.a c.args.b (AreKnownBy c.args.known.now) c.requires.unsettled
    c.requires.two c.requires.equal c.equate.ensures.rest c.equate.ensures.others
    c.in-Ok.ensures.least c.equate.ensures.more

pub returns-in-Ok-clause-nodes : goal.returns-in-Ok-clause-nodes
returns-in-Ok-clause-nodes g c =
    know_nodes c.args.known.now c.know.new.known c.args.a c.args.b c.know.ensures

pub returns-in-Ok-clause-keeps : goal.returns-in-Ok-clause-keeps
returns-in-Ok-clause-keeps g c =
    join_keeps g.T.Undoable.undo g.met.T.Undoable.lawful g.R.CarriesNodes.carried_node
    g.R.CarriesGroups.carried_group g.R.CarriesShare.carried_share g.R.Carries.carried
    g.T.Theory.sound g.T.Theory.numbers g.T.Theory.made c.args.self.now c.equate.new.self
    c.equate.ensures.rest c.equate.ensures.others c.args.trail.now.records
    c.equate.new.trail.records c.requires.unsettled.parts.sound c.equate.ensures.undo

pub returns-in-Err-clause-keeps : goal.returns-in-Err-clause-keeps
returns-in-Err-clause-keeps g c =
    join_keeps g.T.Undoable.undo g.met.T.Undoable.lawful g.R.CarriesNodes.carried_node
    g.R.CarriesGroups.carried_group g.R.CarriesShare.carried_share g.R.Carries.carried
    g.T.Theory.sound g.T.Theory.numbers g.T.Theory.made c.args.self.now c.equate.new.self
    c.equate.ensures.rest c.equate.ensures.others c.args.trail.now.records
    c.equate.new.trail.records c.requires.unsettled.parts.sound c.equate.ensures.undo
