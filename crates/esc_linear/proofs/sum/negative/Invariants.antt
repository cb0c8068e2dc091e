use Rattle.std.proofs.Common.{◌≡◌, map, take}
use Rattle.esc_linear.proofs.PartLemmas.{negative_part}
use Rattle.esc_linear.proofs.sum.negative.Given as goal

abbrev pub invariant-parts : goal.invariant-parts
invariant-parts l = l.parts ≡ map negative_part (take l.part-index l.form.parts)
