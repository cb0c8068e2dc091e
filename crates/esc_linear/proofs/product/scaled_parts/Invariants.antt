use Rattle.std.proofs.Common.{[]}
use Rattle.esc_linear.proofs.FoldLemmas.{Goes}
use Rattle.esc_linear.proofs.ProductLemmas.{with_scaled, scaling}
use Rattle.esc_linear.proofs.product.scaled_parts.Given as goal

abbrev pub invariant-parts : goal.invariant-parts
invariant-parts l = Goes (with_scaled l.factor) (scaling l.factor) [] l.parts l.part-index
    l.products
