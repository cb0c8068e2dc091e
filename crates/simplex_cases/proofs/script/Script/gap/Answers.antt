use Rattle.simplex_cases.proofs.Undoables.{undoable_more}
use Rattle.simplex_cases.proofs.script.Script.gap.Goals as goal

pub returns-clause-undoable : goal.returns-clause-undoable
returns-clause-undoable c = undoable_more c.args.self.now _ c.gap.ensures.simplex c.gap.ensures.undo
    c.requires.undoable
