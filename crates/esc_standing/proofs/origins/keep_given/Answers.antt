use Rattle.std.proofs.Common.{◌+◌, subst, ap, ◌∙◌, length, take}
use Rattle.std.specs.List.{flat_map}
use Rattle.esc_rounds.specs.Origins.{outermost}
use Rattle.esc_standing.specs.Keeping.{Keeps, marked, outer_atoms}
use Rattle.esc_standing.proofs.KeepingCalls.{given_origins}
use Rattle.esc_standing.proofs.origins.keep_given.Goals as goal

pub returns : goal.returns
returns c =
    subst (λ os. Keeps c.args.depth os (outer_atoms c.args.formula.now) c.args.formulas.now
    c.walk.new.formulas)
    (given_origins c.args.base.now c.args.place c.in_ok-number.number c.args.formula.now
    c.requires.within c.requires.there
    (c.in_ok-number.ensures ∙ ap (λ fs. 0 + length (flat_map outermost (take c.args.place fs)))
    c.as_slice.ensures))
    (subst (λ us. Keeps c.args.depth
    (marked c.in_ok-number.number us (outermost c.args.formula.now))
    (outer_atoms c.args.formula.now) c.args.formulas.now c.walk.new.formulas)
    c.new-outer.ensures c.in_ok-walk.ensures.kept)
