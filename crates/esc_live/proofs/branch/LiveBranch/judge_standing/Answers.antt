use Rattle.std.proofs.Common.{refl}
use Rattle.esc_live.proofs.ReadyJudge.{judged_on, ready_by}
use Rattle.esc_live.proofs.branch.LiveBranch.judge_standing.Goals as goal

pub returns-clause-ready : goal.returns-clause-ready
returns-clause-ready c = ready_by c.args.self.now _ refl refl (record {
  graph = c.graph.ensures;
  groups = c.groups.ensures;
  asserted = c.asserted.ensures;
}) c.requires.standing

pub returns-clause-judged : goal.returns-clause-judged
returns-clause-judged c = judged_on c.args.self.now _ c.graph.ensures
