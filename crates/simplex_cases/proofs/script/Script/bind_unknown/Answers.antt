use Rattle.simplex_cases.proofs.Undoables.{undoable_more}
use Rattle.simplex_cases.proofs.script.Script.bind_unknown.Goals as goal

pub returns-in-Ok : goal.returns-in-Ok
returns-in-Ok c = record {
  undoable = undoable_more c.args.self.now _ c.bind.ensures.simplex c.bind.ensures.undo
      c.requires.undoable;
}

pub returns-in-Err : goal.returns-in-Err
returns-in-Err c = record {
  undoable = undoable_more c.args.self.now _ c.bind.ensures.simplex c.bind.ensures.undo
      c.requires.undoable;
}
