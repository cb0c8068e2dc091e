use Rattle.esc_linear.specs.declared.form.Part.{Part}
use Rattle.esc_linear.specs.Forms.{with_one}
use Rattle.esc_linear.specs.Steps.{part_steps}
use Rattle.esc_linear.proofs.FoldLemmas.{Goes}
use Rattle.esc_linear.proofs.sum.add_parts.Given as goal

abbrev pub invariant-parts : goal.invariant-parts
invariant-parts l = Goes with_one (λ ps (q : Part). part_steps ps q.term q.factor) l.fn.parts l.more
    l.part-index l.sums
