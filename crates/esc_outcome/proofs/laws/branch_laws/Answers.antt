use Rattle.esc_outcome.proofs.Branches.{grown_by_fact, grown_by_split, grown_is_elsewhere}
use Rattle.esc_outcome.proofs.Branches.{splits_run_out_early}
use Rattle.esc_outcome.proofs.FirstFacts.{empty_is_grown, first_is_legal, grown_by_first}
use Rattle.esc_outcome.proofs.laws.branch_laws.Goals as goal

pub returns : goal.returns
returns c = record {
  first = first_is_legal;
  empty = empty_is_grown;
  by_first = grown_by_first;
  by_fact = grown_by_fact;
  by_split = grown_by_split;
  elsewhere = grown_is_elsewhere;
  splits = splits_run_out_early;
}
