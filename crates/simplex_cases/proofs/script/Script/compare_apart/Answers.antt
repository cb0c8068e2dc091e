use Rattle.std.proofs.Common.{refl}
use Rattle.simplex_cases.specs.Undoing.{lawful}
use Rattle.simplex_cases.proofs.Kept.{fit_kept, same_kept}
use Rattle.simplex_cases.proofs.Undoables.{undoable_same}
use Rattle.simplex_cases.proofs.script.Script.compare_apart.Goals as goal

pub put_rows-requires-clause-rows : goal.put_rows-requires-clause-rows
put_rows-requires-clause-rows c = fit_kept c.args.self.now.owner.simplex c.part-parted.new.self
    c.part-parted.ensures.keeps c.part-parted.ensures.restricted c.in-Ok.rows c.in-Ok.ensures.fit

pub returns : goal.returns
returns c = record {
  undoable = undoable_same c.args.self.now _ c.put_rows.ensures.simplex
      (lawful.transitive (record { simplex = c.put_rows.new.self })
      (record { simplex = c.part-parted.new.self }) c.args.self.now.owner c.put_rows.ensures.same
      (same_kept c.args.self.now.owner.simplex c.part-parted.new.self c.part-parted.ensures.keeps
      c.part-parted.ensures.restricted c.requires.undoable.sound c.part-parted.ensures.simplex))
      refl c.requires.undoable;
}
