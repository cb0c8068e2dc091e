use Rattle.esc_sharing.proofs.SaidInModels.{cover_is_sound, together_has_one_value}
use Rattle.esc_sharing.proofs.laws.model_laws.Goals as goal

pub returns : goal.returns
returns c = record { one_value = together_has_one_value; sound = cover_is_sound }
