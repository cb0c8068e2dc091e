use Rattle.simplex_cases.specs.Undoable.{IsUndoable}
use Rattle.simplex_cases.proofs.answer_all.Given as goal

abbrev pub invariant-lines : goal.invariant-lines
invariant-lines l = IsUndoable l.script
