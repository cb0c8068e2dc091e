use Rattle.std.proofs.Common.{[], ◌∷◌, refl}
use Rattle.sharing_cases.proofs.Undoables.{undoable_asserted}
use Rattle.sharing_cases.proofs.script.Script.assert_group.Goals as goal

pub returns : goal.returns
returns g c = undoable_asserted g.T.Undoable.undo g.T.Theory.sound g.T.Theory.admits
    g.T.Theory.numbers
    c.staying_laws.ensures.marks c.args.self.now _ [] (c.args.nodes.now ∷ [])
    c.assert_group-state.result c.assert_group-state.ensures.sound
    c.assert_group-state.ensures.undo refl c.assert_group-state.ensures.ends c.is_open-self.ensures
    c.requires
