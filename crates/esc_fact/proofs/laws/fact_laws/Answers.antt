use Rattle.esc_fact.proofs.ClosedFacts.{fact_is_closed}
use Rattle.esc_fact.proofs.laws.fact_laws.Goals as goal

pub returns : goal.returns
returns c = record { closed = fact_is_closed c.closed_laws.ensures.substituted }
