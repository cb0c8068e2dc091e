use Rattle.esc_outcome.proofs.PlainBases.{plain_has_first_facts, plain_is_not_stuck}
use Rattle.esc_outcome.proofs.PlainBases.{plain_runs_out_of_splits, plain_valid_is_refuted}
use Rattle.esc_outcome.proofs.laws.plain_laws.Goals as goal

pub returns : goal.returns
returns c = record {
  first = plain_has_first_facts;
  valid = plain_valid_is_refuted;
  not_stuck = plain_is_not_stuck;
  splits = plain_runs_out_of_splits;
}
