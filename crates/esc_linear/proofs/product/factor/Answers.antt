use Rattle.std.proofs.Common.{arith}
use Rattle.esc_frac.specs.Rational.{one_ℚ}
use Rattle.esc_linear.specs.Forms.{with_constant}
use Rattle.esc_linear.specs.Steps.{constant_steps}
use Rattle.esc_linear.proofs.FoldLemmas.{goes, stops, done}
use Rattle.esc_linear.proofs.product.factor.Goals as goal

pub returns-in_err-factor : goal.returns-in_err-factor
returns-in_err-factor c =
    stops with_constant constant_steps one_ℚ c.args.forms.now c.forms.form-index c.forms.factor
    c.form-item.result _ c.times_constant.result _ _ (omega arith) c.form-item.is
    c.from_residual.ensures.1 c.in_err-factor.was c.times_constant.ensures c.forms.invariant

pub forms-preserved : goal.forms-preserved
forms-preserved c =
    goes with_constant constant_steps one_ℚ c.args.forms.now c.forms.form-index c.forms.factor
    c.in_ok-factor.factor c.form-item.result (omega arith) c.form-item.is c.in_ok-factor.ensures
    c.forms.invariant

pub returns : goal.returns
returns c = done with_constant constant_steps one_ℚ c.args.forms.now c.forms.form-index
    c.forms.factor (omega arith) c.forms.invariant
