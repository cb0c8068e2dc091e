use Rattle.esc_clause.specs.Refinement.{judged_by}
use Rattle.esc_clause.proofs.Looking.{Scanning}
use Rattle.esc_clause.proofs.clauses.Clauses.scan.Given as goal

abbrev pub invariant-members : goal.invariant-members
invariant-members g l =
    Scanning (judged_by (g.J.Judge.judged l.judge) l.self.decisions) l.members l.place l.told
    l.failing
