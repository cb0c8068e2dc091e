use Rattle.std.proofs.Common.{◌≡◌, ◌+◌, length, subst}
use Rattle.esc_rounds.specs.Origins.{outermost}
use Rattle.esc_standing.proofs.WalkSteps.{pass_both, pass_over}
use Rattle.esc_standing.proofs.origins.+pass.Goals as goal

pub pass-returns-in_ok-after-in-Forall : goal.pass-returns-in_ok-after-in-Forall
pass-returns-in_ok-after-in-Forall t c =
    pass_over c.args.number c.in_ok-inside-in-Forall.inside c.in_ok-after-in-Forall.after
    c.args.formula.now c.in-Forall.quant c.in-Forall.is c.in_ok-inside-in-Forall.ensures
    (subst (λ q. c.in_ok-after-in-Forall.after
    ≡ c.in_ok-inside-in-Forall.inside + length (outermost q.body)) c.get.ensures
    c.in_ok-after-in-Forall.ensures)

pub pass-returns-in_ok-after-in-Implies : goal.pass-returns-in_ok-after-in-Implies
pass-returns-in_ok-after-in-Implies t c =
    pass_both c.args.number c.in_ok-between-in-Implies.between c.in_ok-after-in-Implies.after
    c.args.formula.now c.in-Implies.left c.in-Implies.right c.in-Implies.is
    (subst (λ f. c.in_ok-between-in-Implies.between ≡ c.args.number + length (outermost f))
    c.get-in-Implies.ensures c.in_ok-between-in-Implies.ensures)
    (subst (λ f. c.in_ok-after-in-Implies.after
    ≡ c.in_ok-between-in-Implies.between + length (outermost f)) c.get-in-Implies-2.ensures
    c.in_ok-after-in-Implies.ensures)
