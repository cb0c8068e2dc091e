-- The options as a parser of command lines is told of them.
use Rattle.std.specs.Prelude.{true, List, [], ◌∷◌, ◌++◌, map, codes, Some}
use Rattle.clap.specs.Simple.{App, new_app, new_rule, on_top}
use Rattle.clap.specs.Walk.{Rule}
use Rattle.clap.specs.declared.builder.action.ArgAction.TheVariants as action
use Rattle.esc_words.specs.declared.setting.Flag.{Flag}
use Rattle.esc_words.specs.declared.setting.Flag.TheVariants.{Log, Model}
use Rattle.esc_words.specs.declared.setting.Setting.{Setting}
use Rattle.esc_words.specs.declared.setting.Setting.TheVariants.{Depth, Rounds, Facts, Splits}
use Rattle.esc_words.specs.declared.setting.Setting.TheVariants.{Pivots}
use Rattle.esc_words.specs.Uses.{Text, flag_name, setting_name}

abbrev pub flag_rule : Text → Rule
flag_rule name = record (new_rule name) { long = Some name; action = Some action.SetTrue }

abbrev pub setting_rule : Text → Rule
setting_rule name = record (new_rule name) { long = Some name; action = Some action.Set }

abbrev pub flags : List Flag
flags = Log ∷ Model ∷ []

abbrev pub settings : List Setting
settings = Depth ∷ Rounds ∷ Facts ∷ Splits ∷ Pivots ∷ []

abbrev pub command : App
command = on_top (λ s. record s {
  disable_help_flag = true;
  rules = map (λ f. flag_rule (flag_name f)) flags
      ++ map (λ x. setting_rule (setting_name x)) settings;
}) (new_app (codes "simplify"))
