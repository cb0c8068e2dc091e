use Rattle.sharing_cases.proofs.Undoables.{undoable_new}
use Rattle.sharing_cases.proofs.script.Script.new.Goals as goal

pub returns : goal.returns
returns g c = undoable_new g.T.Undoable.undo g.T.Theory.sound g.T.Theory.admits g.T.Theory.numbers
    _ c.in_ok-owner.ensures.shared c.new-3.ensures.items
