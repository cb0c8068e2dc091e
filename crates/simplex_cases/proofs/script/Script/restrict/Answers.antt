use Rattle.simplex_cases.proofs.Undoables.{undoable_more}
use Rattle.simplex_cases.proofs.script.Script.restrict.Goals as goal

pub returns : goal.returns
returns c = record {
  undoable = undoable_more c.args.self.now _ c.at_least_zero.ensures.simplex
      c.at_least_zero.ensures.undo c.requires.undoable;
}
