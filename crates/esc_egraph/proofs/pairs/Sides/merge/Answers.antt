use Rattle.std.proofs.Common.{rules, ◌≡◌, [], ◌∷◌, ◌++◌, IsTrue, arith}
use Rattle.std.proofs.lemmas.Grind.{common_steps}
use Rattle.esc_egraph.proofs.PairSteps.{sided_merged}
use Rattle.esc_egraph.proofs.pairs.Sides.merge.Goals as goal

pub returns-clause-ok : goal.returns-clause-ok
returns-clause-ok c =
    let whole : IsTrue c.args.self.now.whole = search rules in
    let steps : c.push.new.self.items ≡ c.args.self.now.steps.items
    ++ (c.in_ok-step.step ∷ []) = grind (arith, common_steps) in
    sided_merged c.args.classes.now.count c.args.classes.now.merges c.args.pairs.now
    c.args.self.now _ (c.args.from, c.args.into) c.in_ok-step.step c.root-small.result
    c.root-large.result c.requires.merged c.requires.from_is_there c.requires.into_is_there
    c.requires.apart c.requires.sided whole c.in_ok-step.ensures c.root-small.ensures.root
    c.root-large.ensures.root c.in_ok-copy_under.ensures.ok steps
