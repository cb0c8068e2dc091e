-- What is made of that which the parser found.
use Rattle.std.specs.Prelude.{◌≡◌, ◌≢◌, ℕ, Bool, true, false, Option, Some, None, codes}
use Rattle.std.specs.Str.Parse.{digits_value}
use Rattle.clap.specs.Matches.{first_value, one_text}
use Rattle.clap.specs.declared.error.kind.ErrorKind.{ErrorKind}
use Rattle.clap.specs.declared.error.kind.ErrorKind.TheVariants.{OutOfMemory}
use Rattle.clap.specs.declared.parser.matches.Found.{Found}
use Rattle.esc_words.specs.declared.setting.Flag.{Flag}
use Rattle.esc_words.specs.declared.setting.Flag.TheVariants.{Log, Model}
use Rattle.esc_words.specs.declared.setting.Setting.{Setting}
use Rattle.esc_words.specs.declared.setting.Setting.TheVariants.{Depth, Rounds, Facts, Splits}
use Rattle.esc_words.specs.declared.setting.Setting.TheVariants.{Pivots}
use Rattle.esc_options.specs.declared.options.Options.{Options}
use Rattle.esc_words.specs.declared.read.WordsStop.{WordsStop}
use Rattle.esc_words.specs.declared.read.WordsStop.TheVariants as stop
use Rattle.esc_words.specs.Uses.{IsNumberUpTo, Text, flag_name, most_of, setting_name, usual_of}

-- the number that a setting has, by the value that was found for it
abbrev pub IsAsked : Setting → Option Text → ℕ → Type 0
IsAsked setting None number = number ≡ usual_of setting
IsAsked setting (Some value) number =
    IsNumberUpTo (most_of setting) value × (number ≡ digits_value 10 value)

-- what was found is no value of the setting
abbrev pub IsWrong : Setting → Option Text → Type 0
IsWrong setting None = ⊥
IsWrong setting (Some value) = IsNumberUpTo (most_of setting) value → ⊥

abbrev pub IsShown : Found → Flag → Bool → Type 0
IsShown found flag shown =
    (one_text found (flag_name flag) ≡ Some (codes "true") → shown ≡ true)
    × (one_text found (flag_name flag) ≡ Some (codes "false") → shown ≡ false)

abbrev pub IsSetTo : Found → Setting → ℕ → Type 0
IsSetTo found setting = IsAsked setting (first_value found (setting_name setting))

-- the options are those that were found
pub record AreAsked (found : Found) (options : Options) : Type 0 where
  pub depth : IsSetTo found Depth options.limits.depth
  pub rounds : IsSetTo found Rounds options.limits.rounds
  pub facts : IsSetTo found Facts options.limits.facts
  pub splits : IsSetTo found Splits options.limits.splits
  pub pivots : IsSetTo found Pivots options.limits.pivots
  pub log : IsShown found Log options.show.log
  pub model : IsShown found Model options.show.model

abbrev pub IsSomeWrong : Found → Type 0
IsSomeWrong found = (x : Setting) × IsWrong x (first_value found (setting_name x))

-- want of memory is told of just that
abbrev pub StopsBy : ErrorKind → WordsStop → Type 0
StopsBy kind stop.Bad = kind ≢ OutOfMemory
StopsBy kind stop.Memory = kind ≡ OutOfMemory
