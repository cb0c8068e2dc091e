use Rattle.simplex_cases.proofs.Undoables.{undoable_more}
use Rattle.simplex_cases.proofs.script.Script.unknown.Goals as goal

pub returns-clause-undoable : goal.returns-clause-undoable
returns-clause-undoable c = undoable_more c.args.self.now _ c.unknown.ensures.simplex
    c.unknown.ensures.undo c.requires.undoable
