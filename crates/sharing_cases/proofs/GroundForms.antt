-- Which terms have no variable, by their forms.
use Rattle.esc_term.proofs.GroundTerms.{is_ground-Num, is_ground-Var, is_ground-App}

pub ruleset ground_forms = (is_ground-Num, is_ground-Var, is_ground-App)
