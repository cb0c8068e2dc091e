-- Which status comes exactly where, and what holds of the answers.
use Rattle.std.specs.Prelude.{◌≡◌, ◌≤◌, ◌<◌, ◌↔◌, ◌⊎◌, ℕ, Bool, true, false, IsTrue, List, length}
use Rattle.std.specs.Prelude.{take, Option, Some, Ok, Err}
use Rattle.std.specs.List.{AllZip, list_all}
use Rattle.esc_options.specs.declared.options.Limits.{Limits}
use Rattle.esc_options.specs.declared.options.Options.{Options}
use Rattle.esc_sexp.specs.declared.sexp.Sexp.{Sexp}
use Rattle.esc_sexp.specs.declared.sexp.SexpFault.{SexpFault}
use Rattle.esc_sexp.specs.Grammar.{Reads, broken, whole}
use Rattle.esc_term.specs.declared.formula.Formula.{Formula}
use Rattle.esc_form.specs.declared.command.Kind.TheVariants.{Goal}
use Rattle.esc_report.specs.Goals.{IsFreeGoal}
use Rattle.esc_report.specs.PlainFormulas.{is_plain_formula}
use Rattle.esc_answers.specs.Laws.{IsSharpOf, IsSoundOf}
use Rattle.esc_words.specs.Uses.{Text}
use Rattle.esc_words.specs.Words.{AsksFor}
use Rattle.esc_words.specs.declared.read.WordsStop.TheVariants.{Bad}
use Rattle.esc_top.specs.Answers.{ReadsAs}
use Rattle.esc_top.specs.Ran.{Ran}
use Rattle.esc_top.specs.Reading.{HasWhole, IsBrokenBehind, max_input}
use Rattle.esc_top.specs.Told.{Told}
use Rattle.esc_top.specs.declared.status.Status.{Status}
use Rattle.esc_top.specs.declared.status.Status.TheVariants.{Proved, Answered, BadWords, Syntax}
use Rattle.esc_top.specs.declared.status.Status.TheVariants.{ReadFault, WriteFault, Memory, TooMuch}

-- ---- statuses

-- a fault of source or sink, or want of memory, which may stop a run at any place
abbrev pub is_stopped : Status → Bool
is_stopped ReadFault = true
is_stopped WriteFault = true
is_stopped Memory = true
is_stopped status = false

-- no expression goes wrong, and there are not too many bytes
abbrev pub CanBeRead : List ℕ → Type 0
CanBeRead bytes = (es : List Sexp) × Reads 0 bytes es whole × (length bytes ≤ max_input)

-- the first fault of the bytes stands before there are too many
abbrev pub BreaksIn : List ℕ → SexpFault → Type 0
BreaksIn bytes fault =
    (es : List Sexp) × Reads 0 bytes es (broken fault)
    × ((length bytes ≤ max_input) ⊎ IsBrokenBehind false (take max_input bytes) es fault)

-- there are too many bytes, and those that may be read have no fault that is known without the
-- others
abbrev pub AreTooMany : List ℕ → Type 0
AreTooMany bytes =
    (es : List Sexp) × HasWhole (take max_input bytes) es × (max_input < length bytes)

-- the words ask for something
abbrev pub AreRight : List Text → Type 0
AreRight words = (options : Options) × AsksFor words (Ok options)

-- the words and the bytes call for the status
abbrev pub IsDue : List Text → List ℕ → Status → Type 0
IsDue words bytes Proved = AreRight words × CanBeRead bytes
IsDue words bytes Answered = AreRight words × CanBeRead bytes
IsDue words bytes BadWords = AsksFor words (Err Bad)
IsDue words bytes (Syntax fault) = AreRight words × BreaksIn bytes fault
IsDue words bytes TooMuch = AreRight words × AreTooMany bytes
IsDue words bytes status = ⊥

-- what the status says of the reading, where it plays no role what is answered
abbrev pub as_read : Status → Status
as_read Proved = Answered
as_read status = status

-- a run that nothing stops ends with the one status that is due
abbrev pub StatusIsDue : Type 0
StatusIsDue =
    (words : List Text) (bytes : List ℕ) (rest written now : Option (List ℕ))
    (before after : ℕ) (result : Status)
    → Ran words (Some bytes) rest written now before after result → is_stopped result ≡ false
    → (status : Status) → IsDue words bytes status ↔ (as_read status ≡ as_read result)

-- ---- goals

-- the expression reads as this goal, by the names of its report
abbrev pub IsGoal : Sexp → Told → Formula → Type 0
IsGoal e told goal =
    (place : ℕ) × ReadsAs told.names e (Ok (record { place = place; kind = Goal goal }))

-- where the expression is a goal without quantifiers and writes to maps, as all that was assumed
-- then, and is said to be valid, its negation is refuted with what was assumed
abbrev pub IsSoundAt : Sexp → Told → Type 0
IsSoundAt e told = (goal : Formula) → IsGoal e told goal
    → IsTrue (list_all is_plain_formula told.before.assumed) → IsTrue (is_plain_formula goal)
    → IsSoundOf told.before.assumed goal told.report

-- where both have no arithmetic, it is said to be valid just where its negation is refuted with
-- what was assumed, unless memory or splits are wanting
abbrev pub IsSharpAt : Limits → Sexp → Told → Type 0
IsSharpAt limits e told = (goal : Formula) → IsGoal e told goal
    → IsFreeGoal told.before.assumed goal
    → IsSharpOf told.before.assumed goal limits told.report

-- so it is with each expression and its report
abbrev pub RunsAreSound : Type 0
RunsAreSound =
    (words : List Text) (left rest written now : Option (List ℕ)) (before after : ℕ)
    (result : Status)
    → (ran : Ran words left rest written now before after result)
    → AllZip IsSoundAt ran.progress.expressions ran.progress.told

abbrev pub RunsAreSharp : Type 0
RunsAreSharp =
    (words : List Text) (left rest written now : Option (List ℕ)) (before after : ℕ)
    (result : Status)
    → (ran : Ran words left rest written now before after result)
    → AllZip (IsSharpAt ran.options.limits) ran.progress.expressions ran.progress.told
