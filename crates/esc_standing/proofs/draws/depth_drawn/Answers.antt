use Rattle.std.proofs.Common.{◌∙◌, ap, arith, get_or, map, max}
use Rattle.std.specs.Prelude.{slice_index}
use Rattle.std.specs.List.{fold}
use Rattle.esc_standing.proofs.DepthsDrawn.{instance_is, instance_small, witness_is}
use Rattle.esc_standing.proofs.draws.depth_drawn.Goals as goal

pub overflow_add-result-in-Instance : goal.overflow_add-result-in-Instance
overflow_add-result-in-Instance c =
    let small = instance_small c.args.depths.now c.args.formulas.now c.in-Instance.formula
    c.index-formulas-formula-in-Instance.result c.args.draw.now c.in-Instance.nodes
    c.deepest.result c.requires.there c.requires.small c.in-Instance.is
    (c.deepest.ensures
    ∙ ap (λ ns. fold max (get_or c.args.formulas.now c.in-Instance.formula
    c.index-formulas-formula-in-Instance.result).depth
    (map (slice_index c.args.depths.now) ns)) c.as_slice.ensures) in
    omega (arith, small)

pub returns-in-Witness : goal.returns-in-Witness
returns-in-Witness c =
    witness_is c.args.depths.now c.args.formulas.now c.in-Witness.formula
    c.index-formulas-formula.result c.args.draw.now c.requires.there c.in-Witness.is

pub returns-in-Instance : goal.returns-in-Instance
returns-in-Instance c =
    instance_is c.args.depths.now c.args.formulas.now c.in-Instance.formula
    c.index-formulas-formula-in-Instance.result c.args.draw.now c.in-Instance.nodes
    c.deepest.result c.requires.there c.in-Instance.is
    (c.deepest.ensures
    ∙ ap (λ ns. fold max (get_or c.args.formulas.now c.in-Instance.formula
    c.index-formulas-formula-in-Instance.result).depth
    (map (slice_index c.args.depths.now) ns)) c.as_slice.ensures)
