use Rattle.std.proofs.Common.{ap, ◌∙◌}
use Rattle.esc_frac.specs.Rational.{◌+ℚ◌}
use Rattle.esc_linear.proofs.FormLemmas.{value-plus, value-negative, IsNormal-plus}
use Rattle.esc_linear.specs.Forms.{negative}
use Rattle.esc_linear.specs.Laws.{form_value}
use Rattle.esc_linear.proofs.laws.minus_laws.Goals as goal

pub returns-clause-value : goal.returns-clause-value
returns-clause-value c v a b = value-plus v a (negative b)
    ∙ ap (λ x. form_value v a +ℚ x) (value-negative v b)

pub returns-clause-normal : goal.returns-clause-normal
returns-clause-normal c a b h = IsNormal-plus a (negative b) h
