use Rattle.std.proofs.Common.{[], Ok}
use Rattle.std.proofs.lemmas.List.Elements.{All-head}
use Rattle.esc_linear.specs.Steps.{multiplies, StepFits, Yields}
use Rattle.esc_linear.proofs.ProductLemmas.{constant_by, no_constant, a_constant}
use Rattle.esc_linear.proofs.StepLemmas.{AllFit-one, spilled}
use Rattle.esc_linear.proofs.product.times_constant.Goals as goal

pub returns-then-not-is_constant : goal.returns-then-not-is_constant
returns-then-not-is_constant c = no_constant c.args.factor c.args.form.now _
    (constant_by _ _ c.is_constant.ensures) c.if-not-is_constant.true

pub returns-in_err-mul : goal.returns-in_err-mul
unfolding StepFits
returns-in_err-mul c =
    a_constant _ c.args.factor c.args.form.now _ (constant_by _ _ c.is_constant.ensures)
    c.if-not-is_constant.false
    (spilled _ _ _ c.from_residual.ensures.1 (λ all. c.in_err-mul.ensures
    (All-head StepFits (multiplies c.args.factor c.args.form.now.constant) [] all)))

pub returns : goal.returns
unfolding StepFits Yields
returns c =
    a_constant (Ok c.in_ok-mul.field-0) c.args.factor c.args.form.now _
    (constant_by _ _ c.is_constant.ensures) c.if-not-is_constant.false (
      AllFit-one (multiplies c.args.factor c.args.form.now.constant) c.in_ok-mul.ensures.0,
      c.in_ok-mul.ensures.1,
    )
