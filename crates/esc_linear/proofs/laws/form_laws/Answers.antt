use Rattle.esc_linear.proofs.ProductLaw.{form-meant}
use Rattle.esc_linear.proofs.ValueLaw.{form-valued}
use Rattle.esc_linear.proofs.laws.form_laws.Goals as goal

pub returns-clause-linear : goal.returns-clause-linear
returns-clause-linear c = form-meant

pub returns-clause-value : goal.returns-clause-value
returns-clause-value c = form-valued
