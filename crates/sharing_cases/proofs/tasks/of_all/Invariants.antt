use Rattle.sharing_cases.specs.Undoable.{IsUndoable}
use Rattle.sharing_cases.proofs.tasks.of_all.Given as goal

abbrev pub invariant-terms : goal.invariant-terms
invariant-terms g l = IsUndoable g.T.Undoable.undo g.T.Theory.sound g.T.Theory.admits
    g.T.Theory.numbers l.script
