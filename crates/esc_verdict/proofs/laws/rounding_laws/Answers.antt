use Rattle.esc_verdict.proofs.laws.rounding_laws.Goals as goal
use Rattle.esc_verdict.proofs.GrowingLog.{log_may_grow}
use Rattle.esc_verdict.proofs.MatchedFacts.{matched_by_more, matched_grows, matched_is_made}
use Rattle.esc_verdict.proofs.MatchedFacts.{round_is_matched}
use Rattle.esc_verdict.proofs.RoundAfterRound.{rounds_grow, rounds_stay}
use Rattle.esc_verdict.proofs.RoundFacts.{empty_is_saturated, is_within, may_follow}

pub returns : goal.returns
returns c = record {
  follow = may_follow c.round_laws.ensures.legal;
  within = is_within c.round_laws.ensures.shallow;
  matched = round_is_matched c.model_laws.ensures.one_value c.term_laws.ensures.once
      c.round_laws.ensures.met;
  more = matched_by_more;
  grows = matched_grows;
  made = matched_is_made;
  stay = rounds_stay;
  after = rounds_grow;
  log = log_may_grow;
  saturated = empty_is_saturated;
}
