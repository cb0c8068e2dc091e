use Rattle.esc_cover.proofs.Meeting.{congruent_tests_meet}
use Rattle.esc_cover.proofs.Sound.{cover_is_sound, together_has_one_value}
use Rattle.esc_cover.proofs.Stays.{cover_stays}
use Rattle.esc_cover.proofs.laws.cover_laws.Goals as goal

pub returns : goal.returns
returns c = record {
  one_value = together_has_one_value;
  sound = cover_is_sound;
  stays = cover_stays;
  meet = congruent_tests_meet;
}
