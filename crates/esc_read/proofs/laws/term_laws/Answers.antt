use Rattle.esc_read.proofs.BoundTerms.{term_bound}
use Rattle.esc_read.proofs.TokenLemmas.{bare_names_are_names}
use Rattle.esc_read.proofs.laws.term_laws.Goals as goal

pub returns-clause-names : goal.returns-clause-names
returns-clause-names c = bare_names_are_names

pub returns-clause-in_scope : goal.returns-clause-in_scope
returns-clause-in_scope c = term_bound
