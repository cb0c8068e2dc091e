use Rattle.std.proofs.Common.{List, arith}
use Rattle.esc_linear.specs.declared.form.Part.{Part}
use Rattle.esc_linear.specs.Forms.{with_one}
use Rattle.esc_linear.specs.Steps.{Step, part_steps}
use Rattle.esc_linear.proofs.FoldLemmas.{goes, stops, done}
use Rattle.esc_linear.proofs.sum.add_parts.Goals as goal

own : List Part → Part → List Step
own ps q = part_steps ps q.term q.factor

pub returns-in_err-sums : goal.returns-in_err-sums
unfolding own
returns-in_err-sums c =
    stops with_one own c.args.parts c.args.more.now c.parts.part-index c.parts.sums
    c.part-item.result _ c.add_part.result _ _ (omega arith) c.part-item.is
    c.from_residual.ensures.1 c.in_err-sums.was c.add_part.ensures c.parts.invariant

pub parts-preserved : goal.parts-preserved
unfolding own
parts-preserved c =
    goes with_one own c.args.parts c.args.more.now c.parts.part-index c.parts.sums c.in_ok-sums.sums
    c.part-item.result (omega arith) c.part-item.is c.in_ok-sums.ensures c.parts.invariant

pub returns : goal.returns
unfolding own
returns c = done with_one own c.args.parts c.args.more.now c.parts.part-index c.parts.sums
    (omega arith) c.parts.invariant
