use Rattle.esc_simplex.proofs.KeyLaws.{keys_part}
use Rattle.esc_simplex.proofs.laws.key_laws.Goals as goal

pub returns : goal.returns
returns c = keys_part
