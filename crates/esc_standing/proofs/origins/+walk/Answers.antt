use Rattle.std.proofs.Common.{◌≡◌, ◌+◌, length, subst, inl, inr}
use Rattle.esc_rounds.specs.Origins.{outermost}
use Rattle.esc_standing.specs.Keeping.{Keeps, marked, outer_atoms}
use Rattle.esc_standing.proofs.WalkSteps.{pass_both, walk_both, walk_more, walk_over}
use Rattle.esc_standing.proofs.origins.+walk.Goals as goal

pub walk-returns-in_ok-after-in-Forall-clause-kept :
    goal.walk-returns-in_ok-after-in-Forall-clause-kept
walk-returns-in_ok-after-in-Forall-clause-kept t c =
    walk_over c.args.depth c.args.outer.now c.args.number c.args.formula.now c.in-Forall.quant
    c.args.formulas.now c.keep_one.new.formulas (inl c.in-Forall.is)
    c.in_ok-keep_one-in-Forall.ensures

pub walk-returns-in_ok-after-in-Exists-clause-kept :
    goal.walk-returns-in_ok-after-in-Exists-clause-kept
walk-returns-in_ok-after-in-Exists-clause-kept t c =
    walk_over c.args.depth c.args.outer.now c.args.number c.args.formula.now c.in-Exists.quant
    c.args.formulas.now c.keep_one-in-Exists.new.formulas (inr c.in-Exists.is)
    c.in_ok-keep_one-in-Exists.ensures

pub walk-returns-in_ok-after-in-Implies-clause-passed :
    goal.walk-returns-in_ok-after-in-Implies-clause-passed
walk-returns-in_ok-after-in-Implies-clause-passed t c =
    pass_both c.args.number c.in_ok-between-in-Implies.between c.in_ok-after-in-Implies.after
    c.args.formula.now c.in-Implies.left c.in-Implies.right c.in-Implies.is
    (subst (λ f. c.in_ok-between-in-Implies.between ≡ c.args.number + length (outermost f))
    c.get.ensures c.in_ok-between-in-Implies.ensures.passed)
    (subst (λ f. c.in_ok-after-in-Implies.after
    ≡ c.in_ok-between-in-Implies.between + length (outermost f)) c.get-in-Implies.ensures
    c.in_ok-after-in-Implies.ensures.passed)

pub walk-returns-in_ok-after-in-Implies-clause-kept :
    goal.walk-returns-in_ok-after-in-Implies-clause-kept
walk-returns-in_ok-after-in-Implies-clause-kept t c =
    walk_both c.args.depth c.args.outer.now c.args.number c.in_ok-between-in-Implies.between
    c.args.formula.now c.in-Implies.left c.in-Implies.right c.args.formulas.now
    c.walk.new.formulas c.walk-in-Implies.new.formulas c.in-Implies.is
    (subst (λ f. c.in_ok-between-in-Implies.between ≡ c.args.number + length (outermost f))
    c.get.ensures c.in_ok-between-in-Implies.ensures.passed)
    (subst (λ f. Keeps c.args.depth (marked c.args.number c.args.outer.now (outermost f))
    (outer_atoms f) c.args.formulas.now c.walk.new.formulas) c.get.ensures
    c.in_ok-between-in-Implies.ensures.kept)
    (subst (λ f. Keeps c.args.depth
    (marked c.in_ok-between-in-Implies.between c.args.outer.now (outermost f))
    (outer_atoms f) c.walk.new.formulas c.walk-in-Implies.new.formulas) c.get-in-Implies.ensures
    c.in_ok-after-in-Implies.ensures.kept)

pub walk_all-parts-preserved : goal.walk_all-parts-preserved
walk_all-parts-preserved t c =
    walk_more c.args.depth c.args.outer.now c.args.number c.parts.passed c.in_ok-passed.passed
    c.args.parts.now c.parts.part-index c.part-item.result c.args.formulas.now c.parts.formulas
    c.walk.new.formulas c.parts-test.true c.part-item.is c.parts.invariant.0
    c.parts.invariant.1 c.in_ok-passed.ensures.passed c.in_ok-passed.ensures.kept
