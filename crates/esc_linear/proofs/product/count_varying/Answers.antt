use Rattle.std.proofs.Common.{length, ap, ◌∙◌, arith}
use Rattle.esc_linear.proofs.ProductLemmas.{constant_by, varying-constant, varying-other, varying-none}
use Rattle.esc_linear.proofs.product.count_varying.Goals as goal
use Rattle.esc_linear.proofs.product.count_varying.Goals.{then-not-is_constant, else-not-is_constant}

pub forms-preserved : goal.forms-preserved
forms-preserved c =
    let test = constant_by _ _ c.is_constant.ensures in
    elim c.if-not-is_constant.branch [
      | then-not-is_constant w ↦
          let left = ap length (varying-other c.args.forms.now c.forms.form-index c.form-item.result
          (omega arith) c.form-item.is (test ∙ w.if-not-is_constant.true)) in (
            omega (arith, c.forms.invariant.0, left, w.count-is),
            omega
                (arith, c.forms.invariant.1, w.count-is),
          )
      | else-not-is_constant w ↦
          let left = ap length (varying-constant c.args.forms.now c.forms.form-index
          c.form-item.result (omega arith) c.form-item.is (test ∙ w.if-not-is_constant.false))
          in (
            omega (arith, c.forms.invariant.0, left, w.count-is),
            omega
                (arith, c.forms.invariant.1, w.count-is),
          )
    ]

pub returns : goal.returns
returns c =
    let none = ap length (varying-none c.args.forms.now c.forms.form-index (omega arith)) in
    omega (arith, c.forms.invariant.0, none)
