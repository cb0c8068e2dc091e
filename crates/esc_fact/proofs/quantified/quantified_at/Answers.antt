use Rattle.std.proofs.Common.{◌≡◌, ◌+◌, length, Some, subst}
use Rattle.std.specs.Prelude.{slice_get}
use Rattle.esc_fact.specs.WalkInside.{wholes_in}
use Rattle.esc_fact.proofs.Numbers.{at_first, at_last, at_number, past_background, past_negated}
use Rattle.esc_fact.proofs.quantified.quantified_at.Goals as goal

pub returns-in-Some : goal.returns-in-Some
returns-in-Some c =
    at_number c.args.base.now c.args.number c.in-Some.found.now
    (at_first c.args.base.now c.args.number c.in-Some.found.now
    (subst (λ fs. slice_get (wholes_in 0 fs) c.args.number ≡ Some c.in-Some.found.now)
    c.as_slice.ensures (c.in-Some.ensures.found 0)))

pub unreachable-requires : goal.unreachable-requires
unreachable-requires c =
    past_background c.args.base.now c.args.number c.find_in.new.place
    c.in_default-negated.is c.requires
    (subst (λ fs. length (wholes_in 0 fs) + c.find_in.new.place ≡ c.args.number) c.as_slice.ensures
    (c.in_default.ensures.passed 0))

pub unreachable-requires-in-None : goal.unreachable-requires-in-None
unreachable-requires-in-None c =
    past_negated c.args.base.now c.args.number c.find_in.new.place c.find.new.place
    c.in-Some-negated.negated c.in-Some-negated.is c.requires
    (subst (λ fs. length (wholes_in 0 fs) + c.find_in.new.place ≡ c.args.number) c.as_slice.ensures
    (c.in_default.ensures.passed 0)) (c.in-None.ensures.passed 0)

pub returns : goal.returns
returns c =
    at_number c.args.base.now c.args.number c.in-Some-find.found.now
    (at_last c.args.base.now c.args.number c.find_in.new.place c.in-Some-find.found.now
    c.in-Some-negated.negated c.in-Some-negated.is
    (subst (λ fs. length (wholes_in 0 fs) + c.find_in.new.place ≡ c.args.number) c.as_slice.ensures
    (c.in_default.ensures.passed 0)) (c.in-Some-find.ensures.found 0))
