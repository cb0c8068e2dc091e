use Rattle.std.proofs.Common.{[], ◌∷◌, inl, inr}
use Rattle.std.specs.Prelude.{Ok}
use Rattle.esc_sharing.specs.Shared.{IsShared, seen}
use Rattle.esc_sharing.specs.SharingUndo.{part_carried}
use Rattle.esc_sharing.proofs.Grouping.{group_members, group_no_model, group_shared}
use Rattle.esc_sharing.proofs.Grouping.{keeps_grouped, open_not_closed, step_asserts}
use Rattle.esc_sharing.proofs.Joined.{step_ends}
use Rattle.esc_sharing.proofs.SharingNotes.{groups_note, made_nothing}
use Rattle.esc_sharing.proofs.sharing.Sharing.assert_group.Goals as goal

pub kept_apart-requires : goal.kept_apart-requires
kept_apart-requires g c = record {
  members = group_members (seen g.T.Theory.sound g.T.Theory.admits g.T.Theory.numbers
      c.args.self.now)
      c.requires.shared c.args.nodes.now c.requires.nodes c.add_group.new.self
      c.in-Ok.ensures.ok;
}

pub returns-in-Ok-clause-ends : goal.returns-in-Ok-clause-ends
returns-in-Ok-clause-ends g c =
    let v = seen g.T.Theory.sound g.T.Theory.admits g.T.Theory.numbers c.args.self.now in
    step_asserts g.T.Undoable.undo (part_carried g.R.CarriesNodes.carried_node
    g.R.CarriesGroups.carried_group g.R.CarriesShare.carried_share g.R.Carries.carried)
    g.T.Theory.sound
    g.T.Theory.admits g.T.Theory.numbers g.T.Theory.made [] (c.args.nodes.now ∷ [])
    c.args.trail.now.records c.add_group.new.trail.records c.args.self.now
    (record c.args.self.now { groups = c.add_group.new.self })
    (keeps_grouped g.T.Undoable.undo g.met.T.Undoable.lawful g.R.CarriesNodes.carried_node
    g.R.CarriesGroups.carried_group g.R.CarriesShare.carried_share g.R.Carries.carried
    g.T.Theory.sound g.T.Theory.numbers g.T.Theory.made c.args.trail.now.records
    c.add_group.new.trail.records c.args.self.now c.add_group.new.self c.args.nodes.now
    c.in-Ok.ensures.ok c.requires.shared.parts.sound c.add_group.ensures.undo) (Ok c.kept_apart.result)
    (step_ends (record v { groups = c.add_group.new.self })
    (IsShared (record v { groups = c.add_group.new.self })) c.kept_apart.result
    (λ e. group_shared v c.requires.shared c.args.nodes.now c.requires.nodes
    c.add_group.new.self c.in-Ok.ensures.ok
    (c.kept_apart.ensures.open e).1)
    (λ e. group_no_model v c.requires.shared c.args.nodes.now c.requires.nodes
    c.add_group.new.self c.in-Ok.ensures.ok
    (elim (c.kept_apart.ensures.closed e) [
      | inl never ↦ absurd (open_not_closed never)
      | inr broken ↦ broken
    ])))

pub returns-in-Ok-clause-made : goal.returns-in-Ok-clause-made
returns-in-Ok-clause-made g c = made_nothing _ _

pub returns-in-Ok-clause-undo : goal.returns-in-Ok-clause-undo
returns-in-Ok-clause-undo g c = (keeps_grouped g.T.Undoable.undo g.met.T.Undoable.lawful g.R.CarriesNodes.carried_node
    g.R.CarriesGroups.carried_group g.R.CarriesShare.carried_share g.R.Carries.carried
    g.T.Theory.sound g.T.Theory.numbers g.T.Theory.made c.args.trail.now.records
    c.add_group.new.trail.records c.args.self.now c.add_group.new.self c.args.nodes.now
    c.in-Ok.ensures.ok c.requires.shared.parts.sound c.add_group.ensures.undo).undo

pub returns-in-Err-clause-undo : goal.returns-in-Err-clause-undo
returns-in-Err-clause-undo g c =
    groups_note g.T.Undoable.undo g.met.T.Undoable.lawful g.R.CarriesNodes.carried_node
    g.R.CarriesGroups.carried_group g.R.CarriesShare.carried_share g.R.Carries.carried
    c.args.self.now c.args.trail.now.records c.add_group.new.trail.records
    c.args.self.now.groups c.add_group.new.self c.add_group.ensures.undo
