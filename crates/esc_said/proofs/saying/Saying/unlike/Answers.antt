use Rattle.std.proofs.Common.{ℕ, ◌≤◌, List, length, subst, ◌∙◌, arith}
use Rattle.std.proofs.lemmas.Grind.{common_steps}
use Rattle.std.proofs.lemmas.List.{take_all}
use Rattle.esc_cover.specs.Classes.{together}
use Rattle.esc_cover.specs.Cover.{is_forced_apart}
use Rattle.esc_sharing.specs.Nodes.{classes_in, node_term}
use Rattle.esc_said.specs.SayingInside.{unlike_each}
use Rattle.esc_said.specs.Speaking.{SaysAs}
use Rattle.esc_said.proofs.Passing.{all_more, any_more}
use Rattle.esc_said.proofs.SaidAs.{of_SaysAs-Eq}
use Rattle.esc_said.proofs.saying.Saying.unlike.Goals as goal

pub others-preserved : goal.others-preserved
others-preserved c literals speaks =
    let g = c.args.self.now.graph.now in
    let s = node_term g c.args.a in
    let n = c.other-item.result in
    let seen = c.others.invariant literals speaks in
    let said = of_SaysAs-Eq c.equal.result literals (classes_in g) s (node_term g n)
    (c.equal.ensures literals speaks) in
    record {
      holds = all_more (λ b. is_forced_apart literals (classes_in g) s (node_term g b))
          c.args.others.now c.others.other-index n c.others-test.true c.other-item.is
          c.others.said.holds c.turned.result.holds c.and-said.result.holds
          c.and-said.ensures.holds seen.holds (c.turned.ensures.holds ∙ said.1);
      fails = any_more (λ b. together (classes_in g) s (node_term g b)) c.args.others.now
          c.others.other-index n c.others-test.true c.other-item.is c.others.said.fails
          c.turned.result.fails c.and-said.result.fails c.and-said.ensures.fails seen.fails
          (c.turned.ensures.fails ∙ said.0);
    }

pub returns : goal.returns
returns c literals speaks =
    let others = c.args.others.now in
    let past : length others ≤ c.others.other-index = grind (arith, common_steps) in
    subst (λ (ns : List ℕ). SaysAs c.others.said (unlike_each literals c.args.self.now.graph.now
    c.args.a ns)) (take_all _ others past) (c.others.invariant literals speaks)
