use Rattle.std.proofs.Common.{[], Ok, subst₂, arith}
use Rattle.esc_linear.specs.Steps.{Yields}
use Rattle.esc_linear.proofs.FoldLemmas.{goes, stops, done}
use Rattle.esc_linear.proofs.ProductLemmas.{with_scaled, scaling, scaled-folded, scaling-folded}
use Rattle.esc_linear.proofs.product.scaled_parts.Goals as goal

pub returns-in_err-products : goal.returns-in_err-products
returns-in_err-products c =
    subst₂ (λ made value. Yields c.from_residual.result made value)
    (scaling-folded c.args.factor [] c.args.parts.now)
    (scaled-folded c.args.factor c.args.parts.now)
    (stops (with_scaled c.args.factor) (scaling c.args.factor) [] c.args.parts.now
    c.parts.part-index c.parts.products c.part-item.result _ c.add_scaled.result _ _
    (omega arith) c.part-item.is c.from_residual.ensures.1 c.in_err-products.was
    c.add_scaled.ensures c.parts.invariant)

pub parts-preserved : goal.parts-preserved
parts-preserved c =
    goes (with_scaled c.args.factor) (scaling c.args.factor) [] c.args.parts.now c.parts.part-index
    c.parts.products c.in_ok-products.products c.part-item.result (omega arith) c.part-item.is
    c.in_ok-products.ensures c.parts.invariant

pub returns : goal.returns
returns c =
    subst₂ (λ made value. Yields (Ok c.parts.products) made value)
    (scaling-folded c.args.factor [] c.args.parts.now)
    (scaled-folded c.args.factor c.args.parts.now)
    (done (with_scaled c.args.factor) (scaling c.args.factor) [] c.args.parts.now c.parts.part-index
    c.parts.products (omega arith) c.parts.invariant)
