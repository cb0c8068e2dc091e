use Rattle.esc_clause.specs.Refinement.{judged_by}
use Rattle.esc_clause.proofs.Refining.{NoneWaits}
use Rattle.esc_clause.proofs.clauses.Clauses.next_split.Given as goal

abbrev pub invariant-clauses : goal.invariant-clauses
invariant-clauses g l =
    NoneWaits (judged_by (g.J.Judge.judged l.judge) l.self.decisions) l.self.clauses l.at
