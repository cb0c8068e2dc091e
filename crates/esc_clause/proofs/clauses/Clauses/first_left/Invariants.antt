use Rattle.esc_clause.specs.Refinement.{judged_by}
use Rattle.esc_clause.proofs.Looking.{AllFail}
use Rattle.esc_clause.proofs.clauses.Clauses.first_left.Given as goal

abbrev pub invariant-members : goal.invariant-members
invariant-members g l =
    AllFail (judged_by (g.J.Judge.judged l.judge) l.self.decisions) l.members l.place
