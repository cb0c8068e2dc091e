use Rattle.esc_simplex.proofs.BackIsSound.{back_is_sound, rewind_is_sound}
use Rattle.esc_simplex.proofs.laws.back_laws.Goals as goal

pub returns-clause-one : goal.returns-clause-one
returns-clause-one c = back_is_sound

pub returns-clause-all : goal.returns-clause-all
returns-clause-all c = rewind_is_sound
