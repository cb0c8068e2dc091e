use Rattle.esc_session.proofs.GoingBack.{pops_go_back}
use Rattle.esc_session.proofs.laws.session_laws.Goals as goal

pub returns : goal.returns
returns c = pops_go_back
