use Rattle.std.proofs.Common.{◌≡◌, [], sym, subst, true≢false, ◌∙◌}
use Rattle.esc_linear.specs.declared.form.Form.{Form}
use Rattle.esc_linear.specs.Steps.{Yields}
use Rattle.sharing_cases.proofs.ConstantValues.{constant_worth}
use Rattle.sharing_cases.proofs.constants.value_or_stop.Goals as goal

pub returns-then-is_constant-clause-value : goal.returns-then-is_constant-clause-value
returns-then-is_constant-clause-value c = constant_worth c.args.term.now c.in-Ok.form
    c.in-Ok.ensures.linear (c.is_constant.ensures.0 c.if-is_constant.true)

pub refused-requires : goal.refused-requires
unfolding Yields
refused-requires c fit none = true≢false (sym (c.is_constant.ensures.1
    (subst (λ (f : Form). f.parts ≡ []) (sym c.in-Ok.ensures.exact.1) none))
    ∙ c.if-is_constant.false)

pub refused-requires-in-Err-Spill : goal.refused-requires-in-Err-Spill
unfolding Yields
refused-requires-in-Err-Spill c fit none =
    (rw c.in-Err-Spill.field-0-is at c.in-Err-Spill.ensures.exact) fit
