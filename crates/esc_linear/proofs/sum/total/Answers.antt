use Rattle.std.proofs.Common.{arith}
use Rattle.esc_frac.specs.Rational.{zero_ℚ}
use Rattle.esc_linear.specs.Forms.{constant_form, plus}
use Rattle.esc_linear.specs.Steps.{plus_steps}
use Rattle.esc_linear.proofs.FoldLemmas.{goes, stops, done}
use Rattle.esc_linear.proofs.sum.total.Goals as goal

pub returns-in_err-sum : goal.returns-in_err-sum
returns-in_err-sum c =
    stops plus plus_steps (constant_form zero_ℚ) c.args.forms.now c.forms.form-index c.forms.sum
    c.form-item.result _ c.plus.result _ _ (omega arith) c.form-item.is
    c.from_residual.ensures.1 c.in_err-sum.was c.plus.ensures c.forms.invariant

pub forms-preserved : goal.forms-preserved
forms-preserved c =
    goes plus plus_steps (constant_form zero_ℚ) c.args.forms.now c.forms.form-index c.forms.sum
    c.in_ok-sum.sum c.form-item.result (omega arith) c.form-item.is c.in_ok-sum.ensures
    c.forms.invariant

pub returns : goal.returns
returns c = done plus plus_steps (constant_form zero_ℚ) c.args.forms.now c.forms.form-index
    c.forms.sum (omega arith) c.forms.invariant
