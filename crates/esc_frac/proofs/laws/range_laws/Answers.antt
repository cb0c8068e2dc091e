use Rattle.esc_frac.proofs.WholeLaws.{difference_by_step}
use Rattle.esc_frac.proofs.laws.range_laws.Goals as goal

pub returns : goal.returns
returns c = record { difference = difference_by_step }
