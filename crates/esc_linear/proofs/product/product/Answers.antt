use Rattle.std.proofs.Common.{arith, ◌∙◌}
use Rattle.esc_linear.specs.Steps.{factor_steps}
use Rattle.esc_linear.proofs.ProductLemmas.{constant_by, varying-constant, varying-other, varying-none, product_of_one, product_of_none}
use Rattle.esc_linear.proofs.StepLemmas.{handed_on}
use Rattle.esc_linear.proofs.product.product.Goals as goal

pub returns-in_err-factor : goal.returns-in_err-factor
returns-in_err-factor c = handed_on _ c.factor.result _ (factor_steps c.args.forms.now) _ _ _
    c.from_residual.ensures.1 c.in_err-factor.was c.factor.ensures

pub returns-then-not-is_constant : goal.returns-then-not-is_constant
returns-then-not-is_constant c =
    let test = constant_by _ _ c.is_constant.ensures ∙ c.if-not-is_constant.true in
    product_of_one c.scaled.result c.args.forms.now _ c.form-item.result c.in_ok-factor.factor
    (c.forms.invariant ∙ varying-other c.args.forms.now c.forms.form-index c.form-item.result
    (omega arith) c.form-item.is test)
    c.in_ok-factor.ensures c.scaled.ensures

pub forms-preserved : goal.forms-preserved
forms-preserved c =
    let test = constant_by _ _ c.is_constant.ensures ∙ c.if-not-is_constant.false in
    c.forms.invariant ∙ varying-constant c.args.forms.now c.forms.form-index c.form-item.result
    (omega arith) c.form-item.is test

pub returns : goal.returns
returns c =
    product_of_none c.constant.result c.args.forms.now c.in_ok-factor.factor
    (c.forms.invariant ∙ varying-none c.args.forms.now c.forms.form-index (omega arith))
    c.in_ok-factor.ensures c.constant.ensures
