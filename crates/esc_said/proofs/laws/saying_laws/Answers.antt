use Rattle.esc_said.proofs.Sharings.{sharing_speaks}
use Rattle.esc_said.proofs.laws.saying_laws.Goals as goal

pub returns : goal.returns
returns c = sharing_speaks
