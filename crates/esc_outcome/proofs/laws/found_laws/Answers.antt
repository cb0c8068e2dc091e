use Rattle.esc_outcome.proofs.Verdicts.{counterexample_is_not_refuted, refuted_is_valid}
use Rattle.esc_outcome.proofs.laws.found_laws.Goals as goal

pub returns : goal.returns
returns c = record { valid = refuted_is_valid; not_refuted = counterexample_is_not_refuted }
