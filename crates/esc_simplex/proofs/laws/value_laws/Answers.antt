use Rattle.esc_simplex.proofs.FormValue.{value-form}
use Rattle.esc_simplex.proofs.laws.value_laws.Goals as goal

pub returns : goal.returns
returns c = value-form
