-- What a run reads and writes, and how it ends, where source and sink tell their bytes.
use Rattle.std.specs.Prelude.{◌≡◌, ◌≢◌, ◌⊎◌, ◌≤◌, ℕ, Bool, false, not, IsTrue, List, [], ◌++◌}
use Rattle.std.specs.Prelude.{length, Option, Ok, Err}
use Rattle.esc_io.specs.Faults.{Rose}
use Rattle.esc_io.specs.Putting.{Grows, GrowsByFront}
use Rattle.esc_options.specs.declared.options.Options.{Options}
use Rattle.esc_sexp.specs.declared.sexp.Sexp.{Sexp}
use Rattle.esc_sexp.specs.Grammar.{Reads, whole}
use Rattle.esc_words.specs.Uses.{Text}
use Rattle.esc_words.specs.Words.{AsksFor}
use Rattle.esc_words.specs.declared.read.WordsStop.TheVariants.{Bad}
use Rattle.esc_top.specs.LastLine.{last_line}
use Rattle.esc_top.specs.Progress.{Progress}
use Rattle.esc_top.specs.Reading.{HasFirst, HasTooMuch, HasWhole, IsBrokenBehind, max_input}
use Rattle.esc_top.specs.Told.{Told, all_proved, texts}
use Rattle.esc_top.specs.declared.status.Status.{Status}
use Rattle.esc_top.specs.declared.status.Status.TheVariants.{Proved, Answered, BadWords, Syntax}
use Rattle.esc_top.specs.declared.status.Status.TheVariants.{ReadFault, WriteFault, Memory, TooMuch}

-- what may follow the bytes that were taken: nothing, where the source has said that they are all
abbrev pub MayFollow : Bool → List ℕ → Type 0
MayFollow ended more = IsTrue ended → more ≡ []

-- how far the bytes were read and answered, by the status
abbrev pub IsReadTo : Status → Bool → List ℕ → List Sexp → List Told → Type 0
IsReadTo Proved ended taken es told = IsTrue ended × Reads 0 taken es whole
    × IsTrue (all_proved told)
IsReadTo Answered ended taken es told = IsTrue ended × Reads 0 taken es whole
    × IsTrue (not (all_proved told))
IsReadTo BadWords ended taken es told = (ended ≡ false) × (taken ≡ []) × (es ≡ [])
IsReadTo (Syntax fault) ended taken es told = IsBrokenBehind ended taken es fault
IsReadTo ReadFault ended taken es told = HasWhole taken es
IsReadTo WriteFault ended taken es told = (more : List ℕ) → MayFollow ended more
    → HasFirst (taken ++ more) es
IsReadTo Memory ended taken es told = (more : List ℕ) → MayFollow ended more
    → HasFirst (taken ++ more) es
IsReadTo TooMuch ended taken es told = HasTooMuch taken es

-- The options are what the words ask for, or the words ask for nothing. Where memory is wanting to
-- read the words, nothing is read or answered.
abbrev pub AreAsked : Status → List Text → Options → List ℕ → List Told → Type 0
AreAsked BadWords words options taken told = AsksFor words (Err Bad)
AreAsked Memory words options taken told =
    AsksFor words (Ok options) ⊎ ((taken ≡ []) × (told ≡ []))
AreAsked status words options taken told = AsksFor words (Ok options)

-- the source's count of faults rose where the status says so, and else stands
abbrev pub IsCounted : Status → ℕ → ℕ → Type 0
IsCounted ReadFault before after = Rose before after
IsCounted status before after = after ≡ before

-- The bytes that were taken begin with expressions that are answered in order, within the limits
-- that the words of the command line ask for; the texts of the answers and the last line are
-- written. With a write fault it is a front of what some status, reached before the fault, would
-- have written.
pub record Ran (words : List Text) (left rest written now : Option (List ℕ)) (before after : ℕ)
    (result : Status) : Type 0 where
  pub options : Options
  pub reached : Status
  pub progress : Progress options.limits left rest
  pub asked : AreAsked reached words options progress.taken progress.told
  pub read : IsReadTo reached progress.ended progress.taken progress.expressions progress.told
  pub within : reached ≢ TooMuch → length progress.taken ≤ max_input
  pub counted : IsCounted reached before after
  pub whole_text : result ≢ WriteFault → (result ≡ reached)
      × Grows written now (texts options.show progress.told ++ last_line reached)
  pub front : GrowsByFront written now (texts options.show progress.told ++ last_line reached)
