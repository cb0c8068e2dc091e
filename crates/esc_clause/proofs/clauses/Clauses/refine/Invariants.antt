use Rattle.esc_clause.proofs.Refining.{Passing}
use Rattle.esc_clause.proofs.clauses.Clauses.refine.Given as goal

abbrev pub invariant-clauses : goal.invariant-clauses
invariant-clauses g l =
    Passing g.R.Carries.carried (g.J.Judge.judged l.judge) l.fn.self l.fn.trail.records l.self
    l.trail.records l.at l.told
