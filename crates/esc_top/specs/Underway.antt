-- What stands between the steps of a run.
use Rattle.std.specs.Prelude.{◌≡◌, ◌≢◌, ℕ, ◌+◌, ◌<◌, ◌≤◌, Bool, true, ◌&&◌, if◌then◌else◌, List}
use Rattle.std.specs.Prelude.{[], ◌∷◌, ◌++◌, length, Option, None, Result, Ok, Err}
use Rattle.std.specs.Io.KnownBytes.{IsAtEnd}
use Rattle.esc_io.specs.Faults.{Rose}
use Rattle.esc_io.specs.Putting.{Grows, GrowsByFront, Puts}
use Rattle.esc_io.specs.Taking.{Takes}
use Rattle.esc_options.specs.declared.options.Options.{Options}
use Rattle.esc_sexp.specs.declared.sexp.Sexp.{Sexp}
use Rattle.esc_sexp.specs.declared.sexp.SexpFault.{SexpFault}
use Rattle.esc_sexp.specs.Grammar.{Finds, FirstFault, IsBlankText}
use Rattle.esc_sexp.specs.Unread.{ReadsAlike, Unread}
use Rattle.esc_report.specs.declared.report.Report.{Report}
use Rattle.esc_report.specs.Text.{report_text}
use Rattle.esc_answers.specs.State.{State}
use Rattle.esc_session.specs.View.{state_of as state_in}
use Rattle.esc_words.specs.Uses.{Text}
use Rattle.esc_words.specs.Words.{AsksFor}
use Rattle.esc_top.specs.Answers.{AnswersExpression}
use Rattle.esc_top.specs.Progress.{Progress}
use Rattle.esc_top.specs.Ran.{AreAsked, IsCounted, IsReadTo}
use Rattle.esc_read.specs.Reading.{Extends}
use Rattle.esc_names.specs.Rows.{HasDistinctRows}
use Rattle.esc_top.specs.Reading.{BeginsAs, max_input}
use Rattle.esc_top.specs.Told.{all_proved, is_proved_report, texts}
use Rattle.esc_top.specs.declared.desk.Desk.{Desk}
use Rattle.esc_top.specs.declared.input.Feeding.{Feeding}
use Rattle.esc_top.specs.declared.input.Feeding.TheVariants as feeding
use Rattle.esc_top.specs.declared.input.Stop.{Stop}
use Rattle.esc_top.specs.declared.input.Stop.TheVariants as stop
use Rattle.esc_top.specs.declared.status.Status.{Status}
use Rattle.esc_top.specs.declared.status.Status.TheVariants.{Proved, Answered, BadWords}
use Rattle.esc_top.specs.declared.status.Status.TheVariants.{WriteFault, TooMuch}

-- where the reader was told that the text ends, it ends
abbrev pub KeepsEnd : Bool → Bool → List ℕ → Type 0
KeepsEnd told finished more = told ≡ true → (finished ≡ true) × (more ≡ [])

-- Behind these expressions of the bytes that were taken stands what reads like what the reader has
-- before it, whatever follows.
abbrev pub GoesOnBehind : List ℕ → List Sexp → Unread → Type 0
GoesOnBehind taken es unread = (finished : Bool) (more : List ℕ)
    → KeepsEnd unread.finished finished more
    → (after : ℕ) × (stand : List ℕ) × BeginsAs finished 0 (taken ++ more) es after stand
    × ReadsAlike finished after stand unread.place (unread.bytes ++ more)

abbrev pub state_of : Desk → State
state_of desk = state_in desk.session

-- by the options the expressions so far are answered, and the texts of the answers are written
pub record Underway (options : Options) (left rest written now : Option (List ℕ))
    (unread : Unread) (desk : Desk) : Type 0 where
  pub progress : Progress options.limits left rest
  pub ended : progress.ended ≡ unread.finished
  pub untold : unread.fault ≡ None
  pub behind : GoesOnBehind progress.taken progress.expressions unread
  pub reached : unread.place + length unread.bytes ≡ length progress.taken
  pub within : length progress.taken ≤ max_input
  pub options_are : desk.options ≡ options
  pub names : progress.names ≡ desk.names
  pub state : progress.state ≡ state_of desk
  pub clean : desk.all_proved ≡ all_proved progress.told
  pub grown : Grows written now (texts options.show progress.told)

-- the reader has no further whole expression before it and no fault, and nothing but blanks where
-- the bytes are all
pub record IsHungry (unread : Unread) : Type 0 where
  pub no_further : (e : Sexp) (after : ℕ) (rest : List ℕ)
      → Finds unread.finished unread.place unread.bytes e after rest → ⊥
  pub no_fault : (f : SexpFault) → FirstFault unread.finished unread.place unread.bytes f → ⊥
  pub blank : unread.finished ≡ true → IsBlankText unread.bytes

-- a status is reached, and all but the last line is written
pub record Reached (options : Options) (left rest written now : Option (List ℕ))
    (status : Status) : Type 0 where
  pub progress : Progress options.limits left rest
  pub read : IsReadTo status progress.ended progress.taken progress.expressions progress.told
  pub within : status ≢ TooMuch → length progress.taken ≤ max_input
  pub no_write_fault : status ≢ WriteFault
  pub no_bad_words : status ≢ BadWords
  pub grown : Grows written now (texts options.show progress.told)

-- a write failed: a front of the texts is written
pub record Broken (options : Options) (left rest written now : Option (List ℕ)) : Type 0 where
  pub progress : Progress options.limits left rest
  pub read : IsReadTo WriteFault progress.ended progress.taken progress.expressions progress.told
  pub within : length progress.taken ≤ max_input
  pub front : GrowsByFront written now (texts options.show progress.told)

abbrev pub Came : {E : Type 0} → Options → Option (List ℕ) → Option (List ℕ) → Option (List ℕ)
    → Option (List ℕ) → Result Status E → Type 0
Came options left rest written now (Ok status) = Reached options left rest written now status
Came options left rest written now (Err e) = Broken options left rest written now

-- what answering the whole expressions comes to
abbrev pub Stops : {E : Type 0} → Options → Option (List ℕ) → Option (List ℕ) → Option (List ℕ)
    → Option (List ℕ) → Unread → Desk → Result Stop E → Type 0
Stops options left rest written now unread desk (Ok stop.Hungry) =
    Underway options left rest written now unread desk × IsHungry unread
Stops options left rest written now unread desk (Ok (stop.Ended status)) =
    Reached options left rest written now status
Stops options left rest written now unread desk (Err e) = Broken options left rest written now

-- ---- words

-- a status is reached by what the words ask for, and all but the last line is written
pub record Met (words : List Text) (left rest written now : Option (List ℕ))
    (status : Status) : Type 0 where
  pub options : Options
  pub progress : Progress options.limits left rest
  pub asked : AreAsked status words options progress.taken progress.told
  pub read : IsReadTo status progress.ended progress.taken progress.expressions progress.told
  pub within : status ≢ TooMuch → length progress.taken ≤ max_input
  pub no_write_fault : status ≢ WriteFault
  pub grown : Grows written now (texts options.show progress.told)

-- what words and input come to
abbrev pub Meets : {E : Type 0} → List Text → Option (List ℕ) → Option (List ℕ)
    → Option (List ℕ) → Option (List ℕ) → Result Status E → Type 0
Meets words left rest written now (Ok status) = Met words left rest written now status
Meets words left rest written now (Err e) =
    (options : Options) × AsksFor words (Ok options) × Broken options left rest written now

-- ---- single steps

-- one expression is answered, and the text of the answer is written or a front of it
pub record AnswersOne {E : Type 0} (old new : Desk) (e : Sexp) (written now : Option (List ℕ))
    (result : Result (Unit {0}) E) : Type 0 where
  pub report : Report
  pub options : new.options ≡ old.options
  pub names : Extends old.names new.names
  pub distinct : HasDistinctRows new.names
  pub answers : AnswersExpression old.options.limits new.names (state_of old) e report
      (state_of new)
  pub clean : new.all_proved ≡ (old.all_proved && is_proved_report report)
  pub few : new.session.goals ≤ old.session.goals + 1
  pub put : Puts written now result (report_text new.names old.options.show report)

-- what a piece that is read brings, where so many bytes more may be read
abbrev pub Feeds : Option (List ℕ) → Option (List ℕ) → Unread → Unread → ℕ → Feeding → Type 0
Feeds left rest old new room (feeding.Fed count) =
    (bytes : List ℕ) × Takes left rest bytes × (length bytes ≡ count) × (0 < count) ×
    (count ≤ room) × (new ≡ record old { bytes = old.bytes ++ bytes })
Feeds left rest old new room feeding.AtEnd = Takes left rest [] × IsAtEnd rest × (new ≡ old)
Feeds left rest old new room feeding.ReadFault = Takes left rest [] × (new ≡ old)
Feeds left rest old new room feeding.TooMuch = (byte : ℕ) × Takes left rest (byte ∷ [])
    × (room ≡ 0) × (new ≡ old)
Feeds left rest old new room feeding.Memory = (bytes : List ℕ) × Takes left rest bytes
    × (length bytes ≤ room) × (new ≡ old)

-- the source's count of faults stands, and rises where a read failed
abbrev pub IsToldByCount : Feeding → ℕ → ℕ → Type 0
IsToldByCount feeding.ReadFault before now = Rose before now
IsToldByCount told before now = now ≡ before

abbrev pub EndsByCount : {E : Type 0} → Result Status E → ℕ → ℕ → Type 0
EndsByCount (Ok status) before now = IsCounted status before now
EndsByCount (Err e) before now = now ≡ before

abbrev pub StopsByCount : {E : Type 0} → Result Stop E → ℕ → ℕ → Type 0
StopsByCount (Ok (stop.Ended status)) before now = IsCounted status before now
StopsByCount (Ok stop.Hungry) before now = now ≡ before
StopsByCount (Err e) before now = now ≡ before

-- the status of a run that stopped so: at the end of the input it tells whether all is proved
abbrev pub status_at : Stop → Bool → Status
status_at (stop.Ended status) all_proved = status
status_at stop.Hungry all_proved = if all_proved then Proved else Answered
