use Rattle.esc_search.proofs.BackTo.{back_here}
use Rattle.esc_search.proofs.ReadyAlike.{ready_is_alike}
use Rattle.esc_search.proofs.laws.search_laws.Goals as goal

pub returns-clause-ready : goal.returns-clause-ready
returns-clause-ready c = ready_is_alike

pub returns-clause-here : goal.returns-clause-here
returns-clause-here c = back_here
