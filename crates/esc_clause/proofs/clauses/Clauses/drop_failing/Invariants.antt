use Rattle.esc_clause.specs.Refinement.{judged_by}
use Rattle.esc_clause.proofs.Dropping.{Dropping}
use Rattle.esc_clause.proofs.clauses.Clauses.drop_failing.Given as goal

abbrev pub invariant-members : goal.invariant-members
invariant-members g l =
    Dropping g.R.Carries.carried (judged_by (g.J.Judge.judged l.judge) l.fn.self.decisions)
    l.fn.self l.fn.trail.records l.self l.trail l.at l.place
