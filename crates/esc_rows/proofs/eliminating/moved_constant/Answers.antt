use Rattle.std.proofs.Common.{refl, sym, ap, ◌∙◌}
use Rattle.esc_frac.specs.Rational.{ℚ, ◌+ℚ◌, ◌*ℚ◌}
use Rattle.esc_frac.specs.RationalLaws.{zero_from_num}
use Rattle.esc_frac.proofs.FieldLaws.{+ℚ-zero}
use Rattle.esc_rows.proofs.Combinations.{zero-*ℚ}
use Rattle.esc_rows.proofs.eliminating.moved_constant.Goals as goal

pub returns-then-is_zero : goal.returns-then-is_zero
returns-then-is_zero c =
    sym (
    ap (λ (f : ℚ). c.args.held +ℚ f *ℚ c.args.constant)
    (zero_from_num c.args.factor (c.if-is_zero.ensures.0 refl))
    ∙ ap (λ (x : ℚ). c.args.held +ℚ x) (zero-*ℚ c.args.constant) ∙ +ℚ-zero c.args.held
    )
