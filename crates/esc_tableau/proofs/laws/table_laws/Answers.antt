use Rattle.esc_tableau.proofs.LocalLaws.{restricted_are_there, sampled_owns_row, solutions_are_local}
use Rattle.esc_tableau.proofs.MovingLaws.{moves_part}
use Rattle.esc_tableau.proofs.laws.table_laws.Goals as goal

pub returns-clause-local : goal.returns-clause-local
returns-clause-local c = solutions_are_local

pub returns-clause-there : goal.returns-clause-there
returns-clause-there c = restricted_are_there

pub returns-clause-sampled : goal.returns-clause-sampled
returns-clause-sampled c = sampled_owns_row

pub returns-clause-moves : goal.returns-clause-moves
returns-clause-moves c = moves_part
