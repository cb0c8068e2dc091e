use Rattle.std.proofs.Common.{refl}
use Rattle.simplex_cases.proofs.Kept.{same_kept}
use Rattle.simplex_cases.proofs.Undoables.{undoable_same}
use Rattle.simplex_cases.proofs.script.Script.compare.Goals as goal

pub returns : goal.returns
returns c = record {
  undoable = undoable_same c.args.self.now _ c.part.ensures.simplex
      (same_kept c.args.self.now.owner.simplex c.part.new.self c.part.ensures.keeps
      c.part.ensures.restricted c.requires.undoable.sound c.part.ensures.simplex) refl
      c.requires.undoable;
}
