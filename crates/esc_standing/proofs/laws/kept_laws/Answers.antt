use Rattle.esc_standing.proofs.KeptTriggers.{kept_have_triggers}
use Rattle.esc_standing.proofs.laws.kept_laws.Goals as goal

pub returns : goal.returns
returns c = record {
  triggers = kept_have_triggers c.closed_laws.ensures.substituted c.trigger_laws.ensures.hold_all;
}
