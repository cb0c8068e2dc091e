use Rattle.std.proofs.Common.{◌≡◌, ◌<◌, length, ap, sym, ◌∙◌, arith}
use Rattle.std.proofs.lemmas.Grind.{common_steps}
use Rattle.esc_clause.specs.ClauseContext.{ClauseContext}
use Rattle.esc_clause.specs.ClausesUndo.{member_at}
use Rattle.esc_clause.specs.PassesInside.{clause_at, is_failing}
use Rattle.esc_clause.specs.Refinement.{judged_by}
use Rattle.esc_clause.proofs.Dropping.{Dropping-drops, Dropping-keeps}
use Rattle.esc_clause.proofs.clauses.Clauses.drop_failing.Goals as goal
use Rattle.esc_clause.proofs.clauses.Clauses.drop_failing.Goals.{then-fails, else-fails}

pub members-preserved : goal.members-preserved
members-preserved g c =
    let judge = g.J.Judge.judged c.args.judge.now in
    let truth = judged_by judge c.args.self.now.decisions in
    let place = c.members.place in
    let decided : c.members.self.decisions ≡ c.args.self.now.decisions =
    ap (λ (v : ClauseContext). v.decisions) c.members.invariant.thinned in
    let said : c.fails.result
    ≡ is_failing truth (member_at (clause_at c.members.self c.args.at) place) =
    c.fails.ensures
    ∙ ap (λ ds. is_failing (judged_by judge ds)
    (member_at c.members-in-members.result.now place)) decided
    ∙ ap (λ ms. is_failing truth (member_at ms place)) c.members-in-members.ensures in
    let within : place < length (clause_at c.args.self.now c.args.at) =
    grind (arith, common_steps) in
    elim c.if-fails.branch [
      | then-fails w ↦
          rw (w.self-is) (rw (w.trail-is) (Dropping-drops g.R.Carries.carried truth c.args.self.now
          _ c.args.at c.members.self c.members.trail place _ _ c.members.invariant c.requires.there
          within (sym said ∙ w.if-fails.true) w.drop_item.ensures.dropped w.drop_item.ensures.spare
          w.drop_item.ensures.undo))
      | else-fails w ↦
          rw (w.self-is) (rw (w.trail-is) (Dropping-keeps g.R.Carries.carried truth c.args.self.now
          _ c.args.at c.members.self c.members.trail place c.members.invariant c.requires.there
          within (sym said ∙ w.if-fails.false)))
    ]
