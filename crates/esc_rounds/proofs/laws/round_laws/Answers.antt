use Rattle.esc_rounds.proofs.LegalRounds.{rounds_are_legal}
use Rattle.esc_rounds.proofs.MetRounds.{rounds_are_met}
use Rattle.esc_rounds.proofs.ShallowRounds.{rounds_are_shallow}
use Rattle.esc_rounds.proofs.laws.round_laws.Goals as goal

pub returns-clause-legal : goal.returns-clause-legal
returns-clause-legal c = rounds_are_legal c.term_laws.ensures.once c.term_laws.ensures.ground

pub returns-clause-shallow : goal.returns-clause-shallow
returns-clause-shallow c =
    rounds_are_shallow c.term_laws.ensures.once c.term_laws.ensures.ground

pub returns-clause-met : goal.returns-clause-met
returns-clause-met c = rounds_are_met
