use Rattle.esc_nodes.proofs.NodeTerms.{terms_stay, terms_are_built, terms_are_once, terms_are_ground}
use Rattle.esc_nodes.proofs.laws.term_laws.Goals as goal

pub returns-clause-stay : goal.returns-clause-stay
returns-clause-stay c = terms_stay

pub returns-clause-built : goal.returns-clause-built
returns-clause-built c = terms_are_built

pub returns-clause-once : goal.returns-clause-once
returns-clause-once c = terms_are_once

pub returns-clause-ground : goal.returns-clause-ground
returns-clause-ground c = terms_are_ground
