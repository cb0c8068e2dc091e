use Rattle.std.proofs.Common.{arith}
use Rattle.esc_linear.proofs.ProductLemmas.{opaque_product}
use Rattle.esc_linear.proofs.StepLemmas.{no_memory}
use Rattle.esc_linear.proofs.product.times.Goals as goal

pub returns-in_err-opaque : goal.returns-in_err-opaque
returns-in_err-opaque c = no_memory _ _ _ c.from_residual.ensures.1

pub returns : goal.returns
returns c = opaque_product c.in_ok-opaque.field-0 _ c.args.forms.now
    (omega (arith, c.count_varying.ensures)) c.in_ok-opaque.ensures
