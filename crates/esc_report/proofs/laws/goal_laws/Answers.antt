use Rattle.esc_report.proofs.FreeGoals.{free_goal_is_plain_and_free}
use Rattle.esc_report.proofs.Plain.{plain_goal_is_plain}
use Rattle.esc_report.proofs.laws.goal_laws.Goals as goal

pub returns : goal.returns
returns c = record {
  plain = plain_goal_is_plain;
  free = free_goal_is_plain_and_free plain_goal_is_plain;
}
