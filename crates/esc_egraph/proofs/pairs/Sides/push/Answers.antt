use Rattle.std.proofs.Common.{rules, ◌≡◌, [], ◌∷◌, ◌++◌, IsTrue, arith}
use Rattle.std.proofs.lemmas.Grind.{common_steps}
use Rattle.esc_egraph.proofs.PairSteps.{sided_paired}
use Rattle.esc_egraph.proofs.pairs.Sides.push.Goals as goal

pub returns-clause-ok : goal.returns-clause-ok
returns-clause-ok c =
    let whole : IsTrue c.args.self.now.whole = search rules in
    let steps : c.push.new.self.items ≡ c.args.self.now.steps.items
    ++ (c.in_ok-step.step ∷ []) = grind (arith, common_steps) in
    sided_paired c.args.classes.now.count c.args.classes.now.merges c.args.pairs.now
    c.args.self.now _ c.args.a c.args.b c.in_ok-step.step c.requires.merged c.requires.a_is_there
    c.requires.b_is_there c.requires.sided whole c.in_ok-step.ensures
    c.in_ok-push_sides.ensures.ok steps
