use Rattle.simplex_cases.proofs.Rewound.{newer_rewind}
use Rattle.simplex_cases.proofs.Undoables.{undoable_at}
use Rattle.simplex_cases.proofs.script.Script.pop.Goals as goal

pub pop_to-requires-clause-undoable : goal.pop_to-requires-clause-undoable
pop_to-requires-clause-undoable c = newer_rewind c.args.self.now.owner
    c.args.self.now.trail.records c.in_ok-level.level.mark c.requires.undoable.rewinds

pub returns : goal.returns
returns c = record {
  undoable = undoable_at c.args.self.now _ c.in_ok-level.level.mark c.pop_to.ensures.rewound
      c.pop_to.ensures.records c.requires.undoable;
}
