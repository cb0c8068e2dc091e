-- What the words of a command line ask for.
use Rattle.std.specs.Prelude.{◌≡◌, ◌≢◌, ◌⊎◌, List, [], ◌∷◌, ◌++◌, codes, drop, Result, Ok, Err}
use Rattle.std.specs.List.{All, AllPairs}
use Rattle.esc_words.specs.Uses.{HasRightValue, IsWritten, Text, Use, name_of, options_of}
use Rattle.esc_options.specs.declared.options.Options.{Options}
use Rattle.esc_words.specs.declared.read.WordsStop.{WordsStop}
use Rattle.esc_words.specs.declared.read.WordsStop.TheVariants as stop

-- nothing, or two dashes
abbrev pub IsEnd : List Text → Type 0
IsEnd words = (words ≡ []) ⊎ (words ≡ codes "--" ∷ [])

-- the words are the uses in order, and then an end
abbrev pub AreWritten : List Use → List Text → Type 0
AreWritten [] words = IsEnd words
AreWritten (one ∷ uses) words = (here behind : List Text) × (words ≡ here ++ behind)
    × IsWritten one here × AreWritten uses behind

-- behind the program's name these options are used, each once and with a right value
pub record AreUses (words : List Text) (uses : List Use) : Type 0 where
  pub written : AreWritten uses (drop 1 words)
  pub once : AllPairs (λ a b. name_of a ≢ name_of b) uses
  pub values : All HasRightValue uses

-- what the words ask for, or that they ask for nothing
abbrev pub AsksFor : List Text → Result Options WordsStop → Type 0
AsksFor words (Ok options) = (uses : List Use) × AreUses words uses × (options ≡ options_of uses)
AsksFor words (Err stop.Bad) = (uses : List Use) → AreUses words uses → ⊥
AsksFor words (Err stop.Memory) = Unit {0}

-- ---- laws

-- uses that are written by the same words ask for the same
abbrev pub AskForOneThing : Type 0
AskForOneThing = (words : List Text) (uses others : List Use) → AreUses words uses
    → AreUses words others → options_of uses ≡ options_of others
