use Rattle.esc_frac.specs.Rational.{zero_ℚ}
use Rattle.esc_linear.specs.Forms.{constant_form, plus}
use Rattle.esc_linear.specs.Steps.{plus_steps}
use Rattle.esc_linear.proofs.FoldLemmas.{Goes}
use Rattle.esc_linear.proofs.sum.total.Given as goal

abbrev pub invariant-forms : goal.invariant-forms
invariant-forms l = Goes plus plus_steps (constant_form zero_ℚ) l.forms l.form-index l.sum
