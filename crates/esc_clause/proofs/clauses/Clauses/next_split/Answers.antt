use Rattle.std.proofs.Common.{ap, sym, ◌∙◌, arith}
use Rattle.std.proofs.lemmas.Grind.{common_steps}
use Rattle.esc_clause.specs.ClauseContext.{items_left, no_clause}
use Rattle.esc_clause.specs.Refinement.{judged_by, left_of, first}
use Rattle.esc_clause.proofs.Refining.{NoneWaits-found}
use Rattle.esc_clause.proofs.clauses.Clauses.next_split.Goals as goal

pub returns-then-not-is_satisfied : goal.returns-then-not-is_satisfied
returns-then-not-is_satisfied g c =
    let truth = judged_by (g.J.Judge.judged c.args.judge.now) c.args.self.now.decisions in
    c.first_left.ensures ∙ (ap (λ ms. first (left_of truth (items_left ms))) c.members.ensures
    ∙ sym (NoneWaits-found truth c.args.self.now.clauses c.clauses.at no_clause c.clauses.invariant
    (grind (arith, common_steps)) (cc)))
