use Rattle.std.proofs.Common.{◌≡◌, ap, ◌∙◌}
use Rattle.esc_clause.specs.declared.occurrence.Occurrence.{Occurrence}
use Rattle.esc_clause.specs.declared.truth.Truth.{Truth}
use Rattle.esc_live.proofs.branch.LiveBranch.truth_of.Goals as goal

pub returns : goal.returns
returns c =
    c.judge.ensures ∙ ap (λ (f : Occurrence → Truth). f c.args.at) c.judge_standing.ensures.judged
