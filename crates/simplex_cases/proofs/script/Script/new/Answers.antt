use Rattle.simplex_cases.proofs.Undoables.{undoable_new}
use Rattle.simplex_cases.proofs.script.Script.new.Goals as goal

pub returns : goal.returns
returns c = record { undoable = undoable_new _ c.new.ensures.simplex c.new-2.ensures.records }
