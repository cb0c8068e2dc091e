use Rattle.esc_match.proofs.Coarser.{matches_are_congruent, matches_stay, unchanged_matches_are_old}
use Rattle.esc_match.proofs.TermMatches.{matches_are_of_terms, term_matches_are_of_nodes}
use Rattle.esc_match.proofs.laws.match_laws.Goals as goal

pub returns-clause-terms : goal.returns-clause-terms
returns-clause-terms c = matches_are_of_terms

pub returns-clause-nodes : goal.returns-clause-nodes
returns-clause-nodes c = term_matches_are_of_nodes

pub returns-clause-congruent : goal.returns-clause-congruent
returns-clause-congruent c = matches_are_congruent

pub returns-clause-stay : goal.returns-clause-stay
returns-clause-stay c = matches_stay

pub returns-clause-old : goal.returns-clause-old
returns-clause-old c = unchanged_matches_are_old
