use Rattle.std.proofs.Common.{ap, ◌∙◌}
use Rattle.esc_cover.specs.Classes.{together}
use Rattle.esc_cover.specs.Cover.{is_forced_apart}
use Rattle.esc_cover.proofs.CoverLevels.{cover-Eq}
use Rattle.esc_said.proofs.Passing.{all_more, any_more}
use Rattle.esc_context.specs.JudgingInside.{classes_for, literals_for}
use Rattle.esc_context.proofs.judge.Judge.said_unlike.Goals as goal

pub others-preserved : goal.others-preserved
others-preserved c =
    let j = c.args.self.now in
    let t = c.args.term.now in
    let equation = cover-Eq (literals_for j) (classes_for j) t c.other-item.result in (
      all_more (is_forced_apart (literals_for j) (classes_for j) t) c.args.others.now
          c.others.other-index c.other-item.result c.others-test.true c.other-item.is
          c.others.said.holds c.turned.result.holds c.and-said.result.holds c.and-said.ensures.holds
          c.others.invariant.0
          (c.turned.ensures.holds ∙ (c.said_equal.ensures.fails ∙ ap (λ d. d.fails) equation)),
      any_more (together (classes_for j) t) c.args.others.now c.others.other-index
          c.other-item.result c.others-test.true c.other-item.is
          c.others.said.fails c.turned.result.fails c.and-said.result.fails c.and-said.ensures.fails
          c.others.invariant.1
          (c.turned.ensures.fails ∙ (c.said_equal.ensures.holds ∙ ap (λ d. d.holds) equation)),
    )
