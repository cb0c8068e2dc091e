use Rattle.esc_egraph.proofs.Values.{equals_have_one_value, made_have_one_value}
use Rattle.esc_egraph.proofs.laws.class_laws.Goals as goal

pub returns-clause-equals : goal.returns-clause-equals
returns-clause-equals c = equals_have_one_value

pub returns-clause-made : goal.returns-clause-made
returns-clause-made c = made_have_one_value
