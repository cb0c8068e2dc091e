use Rattle.esc_frac.specs.Rational.{one_ℚ}
use Rattle.esc_linear.specs.Forms.{with_constant}
use Rattle.esc_linear.specs.Steps.{constant_steps}
use Rattle.esc_linear.proofs.FoldLemmas.{Goes}
use Rattle.esc_linear.proofs.product.factor.Given as goal

abbrev pub invariant-forms : goal.invariant-forms
invariant-forms l = Goes with_constant constant_steps one_ℚ l.forms l.form-index l.factor
