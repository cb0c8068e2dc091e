use Rattle.std.proofs.Common.{[], ◌∷◌, refl}
use Rattle.sharing_cases.proofs.Undoables.{undoable_asserted}
use Rattle.sharing_cases.proofs.script.Script.assert.Goals as goal

pub returns : goal.returns
returns g c = undoable_asserted g.T.Undoable.undo g.T.Theory.sound g.T.Theory.admits
    g.T.Theory.numbers
    c.staying_laws.ensures.marks c.args.self.now _ (c.args.lit ∷ []) []
    c.assert_literal-state.result
    c.assert_literal-state.ensures.sound c.assert_literal-state.ensures.undo refl
    c.assert_literal-state.ensures.ends c.is_open-self.ensures c.requires
