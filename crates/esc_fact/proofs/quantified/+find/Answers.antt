use Rattle.std.proofs.Common.{◌≡◌, ◌+◌, length, ap, subst, ◌∙◌}
use Rattle.esc_fact.specs.WalkInside.{wholes_under}
use Rattle.esc_fact.proofs.Places.{found_at, passed_both}
use Rattle.esc_fact.proofs.Quantifiers.{wholes-sides}
use Rattle.esc_fact.proofs.quantified.+find.Goals as goal

pub find-returns-in_default-find-clause-passed : goal.find-returns-in_default-find-clause-passed
find-returns-in_default-find-clause-passed t c d =
    let left =
    subst (λ f. length (wholes_under d f) + c.find-in-Implies.new.place ≡ c.args.place.now)
    c.get-in-Implies.ensures (c.in_default.ensures.passed d) in
    let right =
    subst (λ f. length (wholes_under d f) + c.find-in-Implies-2.new.place
    ≡ c.find-in-Implies.new.place) c.get-in-Implies-2.ensures
    (c.in_default-find.ensures.passed d) in
    ap (λ fs. length fs + c.find-in-Implies-2.new.place)
    (wholes-sides d c.args.formula.now c.in-Implies.left c.in-Implies.right c.in-Implies.is)
    ∙ passed_both (wholes_under d c.in-Implies.left)
    (wholes_under d c.in-Implies.right) c.args.place.now c.find-in-Implies.new.place
    c.find-in-Implies-2.new.place left right

pub find_in-returns-in-Some-clause-found : goal.find_in-returns-in-Some-clause-found
find_in-returns-in-Some-clause-found t c d =
    found_at (wholes_under d) c.args.formulas.now c.formulas.formula-index c.formula-item.result
    c.formulas.place c.args.place.now c.in-Some.found.now
    c.formulas-test.true c.formula-item.is (c.formulas.invariant d) (c.in-Some.ensures.found d)
