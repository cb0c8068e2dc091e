use Rattle.std.proofs.Common.{take}
use Rattle.esc_live.specs.StandingInside.{WithClauses}
use Rattle.esc_live.proofs.LiveNotes.{LiveNotes}
use Rattle.esc_live.proofs.branch.LiveBranch.add_clauses.Given as goal

abbrev pub invariant-clauses : goal.invariant-clauses
invariant-clauses l = record {
  done : WithClauses l.fn.self l.self (take l.clause-index l.clauses);
  undo : LiveNotes l.fn.trail.records l.trail.records l.fn.self l.self;
}
