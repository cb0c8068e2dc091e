use Rattle.esc_verdict.proofs.laws.verdict_laws.Goals as goal
use Rattle.esc_verdict.proofs.Plain.{is_not_refuted, runs_out_of_splits}

pub returns-clause-not_refuted : goal.returns-clause-not_refuted
returns-clause-not_refuted c base limits found is =
    c.found_laws.ensures.not_refuted base found is.within.legal is.counterexample

pub returns-clause-plain : goal.returns-clause-plain
returns-clause-plain c = is_not_refuted c.plain_laws.ensures.first c.found_laws.ensures.not_refuted

pub returns-clause-splits : goal.returns-clause-splits
returns-clause-splits c =
    runs_out_of_splits c.plain_laws.ensures.first c.plain_laws.ensures.not_stuck
    c.plain_laws.ensures.splits c.round_laws.ensures.legal
