use Rattle.std.proofs.Common.{ap, ◌∙◌}
use Rattle.std.specs.Prelude.{nat_le, slice_index}
use Rattle.std.specs.List.{list_any}
use Rattle.esc_rounds.specs.Standing.{standing_of}
use Rattle.esc_rounds.proofs.Depths.{instance_beyond, instance_within}
use Rattle.esc_rounds.proofs.depth.is_within.Goals as goal

pub returns-then-depth-limit-2 : goal.returns-then-depth-limit-2
returns-then-depth-limit-2 c =
    instance_within (standing_of c.args.branch.now) c.args.limit c.in-Instance.formula
    c.index-branch-formula.result c.in-Instance.nodes c.args.draw.now c.is_any_deep.result
    c.requires.drawable c.in-Instance.is c.if-depth-limit-2.true
    (c.is_any_deep.ensures
    ∙ ap (list_any (λ n. nat_le c.args.limit (slice_index c.args.branch.now.depths.now n)))
    c.as_slice.ensures)

pub returns-else-depth-limit-2 : goal.returns-else-depth-limit-2
returns-else-depth-limit-2 c =
    instance_beyond (standing_of c.args.branch.now) c.args.limit c.in-Instance.formula
    c.index-branch-formula.result c.in-Instance.nodes c.args.draw.now c.requires.drawable
    c.in-Instance.is c.if-depth-limit-2.false
