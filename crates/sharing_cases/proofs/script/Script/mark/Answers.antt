use Rattle.std.proofs.Common.{refl, subst, ◌≡◌, ◌++◌, ◌∷◌, []}
use Rattle.sharing_cases.proofs.Undoables.{undoable_marked}
use Rattle.sharing_cases.proofs.script.Script.mark.Goals as goal

pub returns-in-Ok : goal.returns-in-Ok
returns-in-Ok g c = undoable_marked g.T.Undoable.undo g.T.Theory.sound g.T.Theory.admits
    g.T.Theory.numbers c.args.self.now _ refl refl
    (subst (λ m. c.push.new.self.items ≡ c.args.self.now.levels.items ++ m ∷ []) c.mark.ensures
    c.in-Ok.ensures.items) c.if-not-self.false refl c.requires
