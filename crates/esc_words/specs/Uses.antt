-- The options, how they are written and what they ask for. A new option is one more flag or
-- setting, with a line in each definition by cases, and a field of the options.
use Rattle.std.specs.Prelude.{◌≡◌, ◌⊎◌, ◌≤◌, ℕ, Bool, List, [], ◌∷◌, ◌++◌, length, codes, Option}
use Rattle.std.specs.Prelude.{Some, None, find}
use Rattle.std.specs.List.{list_any}
use Rattle.std.specs.Option.{option_and_then, option_map_or}
use Rattle.std.specs.Str.{bytes_eq}
use Rattle.std.specs.Str.Parse.{IsNumeral, digits_value}
use Rattle.esc_words.specs.declared.setting.Flag.{Flag}
use Rattle.esc_words.specs.declared.setting.Flag.TheVariants.{Log, Model}
use Rattle.esc_words.specs.declared.setting.Setting.{Setting}
use Rattle.esc_words.specs.declared.setting.Setting.TheVariants.{Depth, Rounds, Facts, Splits}
use Rattle.esc_words.specs.declared.setting.Setting.TheVariants.{Pivots}
use Rattle.esc_options.specs.declared.options.Options.{Options}

abbrev pub Text : Type 0
Text = List ℕ

-- ---- names

abbrev pub flag_name : Flag → Text
flag_name Log = codes "log"
flag_name Model = codes "model"

abbrev pub setting_name : Setting → Text
setting_name Depth = codes "depth"
setting_name Rounds = codes "rounds"
setting_name Facts = codes "facts"
setting_name Splits = codes "splits"
setting_name Pivots = codes "pivots"

-- one use of an option: a flag, or a setting with its value as it is written
pub data Use : Type 0 where
  Raised : Flag → Use
  Set : Setting → Text → Use

abbrev pub name_of : Use → Text
name_of (Raised flag) = flag_name flag
name_of (Set setting value) = setting_name setting

-- ---- writing

-- as a name stands in the words
abbrev pub dashed : Text → Text
dashed name = codes "--" ++ name

-- the name and the value, as two words or with an equals sign between them
abbrev pub IsNameWithValue : Text → Text → List Text → Type 0
IsNameWithValue name value words =
    (words ≡ name ∷ value ∷ []) ⊎ (words ≡ (name ++ (codes "=" ++ value)) ∷ [])

abbrev pub IsWritten : Use → List Text → Type 0
IsWritten (Raised flag) words = words ≡ dashed (flag_name flag) ∷ []
IsWritten (Set setting value) words = IsNameWithValue (dashed (setting_name setting)) value words

-- ---- values

-- one to ten digits of a number that is not above this one
pub record IsNumberUpTo (most : ℕ) (value : Text) : Type 0 where
  pub digits : IsNumeral 10 value
  pub few : length value ≤ 10
  pub at_most : digits_value 10 value ≤ most

abbrev pub most_of : Setting → ℕ
most_of Depth = 9
most_of Rounds = 1000
most_of Facts = 100000
most_of Splits = 10000000
most_of Pivots = 1000000

abbrev pub HasRightValue : Use → Type 0
HasRightValue (Raised flag) = Unit {0}
HasRightValue (Set setting value) = IsNumberUpTo (most_of setting) value

-- ---- meaning

-- the number of a setting where no use sets it
abbrev pub usual_of : Setting → ℕ
usual_of Depth = 4
usual_of Rounds = 64
usual_of Facts = 20000
usual_of Splits = 100000
usual_of Pivots = 10000

abbrev pub value_of : Use → Option Text
value_of (Raised flag) = None
value_of (Set setting value) = Some value

-- the value that a use among these gives the setting
abbrev pub value_in : Setting → List Use → Option Text
value_in setting uses =
    option_and_then value_of (find (λ u. bytes_eq (name_of u) (setting_name setting)) uses)

abbrev pub number_in : Setting → List Use → ℕ
number_in setting uses = option_map_or (digits_value 10) (value_in setting uses) (usual_of setting)

abbrev pub is_raised : Flag → List Use → Bool
is_raised flag uses = list_any (λ u. bytes_eq (name_of u) (flag_name flag)) uses

-- what the uses ask for
abbrev pub options_of : List Use → Options
options_of uses = record {
  limits = record {
    depth = number_in Depth uses;
    rounds = number_in Rounds uses;
    facts = number_in Facts uses;
    splits = number_in Splits uses;
    pivots = number_in Pivots uses;
  };
  show = record {
    log = is_raised Log uses;
    model = is_raised Model uses;
  };
}
