use Rattle.simplex_cases.proofs.Undoables.{undoable_more}
use Rattle.simplex_cases.proofs.script.Script.unite.Goals as goal

pub returns : goal.returns
returns c = record {
  undoable = undoable_more c.args.self.now _ c.equal.ensures.simplex c.equal.ensures.undo
      c.requires.undoable;
}
