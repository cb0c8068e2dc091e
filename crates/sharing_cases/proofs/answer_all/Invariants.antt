use Rattle.sharing_cases.specs.Undoable.{IsKept}
use Rattle.sharing_cases.proofs.answer_all.Given as goal

abbrev pub invariant-lines : goal.invariant-lines
invariant-lines l = IsKept l.kept
