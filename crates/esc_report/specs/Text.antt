-- The text of a report. Every line ends with a line feed.
use Rattle.std.specs.Prelude.{◌≡◌, ℕ, if◌then◌else◌, List, [], ◌++◌, codes, decimal, length, Option}
use Rattle.std.specs.Prelude.{Some, None}
use Rattle.esc_fact.specs.declared.fact.Fact.{Fact}
use Rattle.esc_term.specs.declared.formula.Formula.{Formula}
use Rattle.esc_read.specs.declared.fault.FormKind.{FormKind}
use Rattle.esc_read.specs.declared.fault.FormKind.TheVariants.{WrongCount, NotAFormula, NotATerm}
use Rattle.esc_read.specs.declared.fault.FormKind.TheVariants.{NumberTooLarge, ReservedName}
use Rattle.esc_read.specs.declared.fault.FormKind.TheVariants.{DuplicateVariable}
use Rattle.esc_read.specs.declared.fault.FormKind.TheVariants.{MisplacedPattern, EmptyList}
use Rattle.esc_options.specs.declared.options.Show.{Show}
use Rattle.esc_verdict.specs.declared.cause.Cause.{Cause}
use Rattle.esc_verdict.specs.declared.cause.Cause.TheVariants.{Overflow, Pivots, Splits}
use Rattle.esc_verdict.specs.declared.cause.Cause.TheVariants.{Rounds, Facts}
use Rattle.esc_report.specs.FoundText.{found_text}
use Rattle.esc_report.specs.LogText.{log_text}
use Rattle.esc_report.specs.declared.report.Refusal.{Refusal}
use Rattle.esc_report.specs.declared.report.Refusal.TheVariants.{Form, NothingToPop, Redefined}
use Rattle.esc_report.specs.declared.report.Report.{Report}
use Rattle.esc_report.specs.declared.report.Report.TheVariants.{Valid, Invalid, Unknown}
use Rattle.esc_report.specs.declared.report.Report.TheVariants.{Refused, Memory, Done}

-- the last line of a goal: its number and its answer
abbrev pub goal_line : ℕ → List ℕ → List ℕ
goal_line goal answer = decimal goal ++ answer

-- ---- goals that are valid, or not

unfoldable pub valid_line : ℕ → List ℕ
valid_line goal = goal_line goal (codes ": Valid.\n")

-- the facts, where they are asked for
abbrev pub facts_text : List (List ℕ) → Show → List Fact → List Formula → List ℕ
facts_text names show log formulas = if show.log then log_text names log formulas else []

unfoldable pub invalid_line : ℕ → List ℕ
invalid_line goal = goal_line goal (codes ": Invalid.\n")

abbrev pub cause_text : Cause → List ℕ
cause_text (Overflow branch stuck) = codes "arithmetic overflow"
cause_text (Pivots branch stuck) = codes "pivot limit"
cause_text (Splits branch next) = codes "split limit"
cause_text (Rounds branch made) = codes "round limit"
cause_text (Facts branch next) = codes "fact limit"

unfoldable pub cause_line : Cause → List ℕ
cause_line cause = codes ": Unknown (" ++ (cause_text cause ++ codes ").\n")

abbrev pub unknown_text : ℕ → Cause → List ℕ
unknown_text goal cause = goal_line goal (cause_line cause)

-- ---- commands that are refused, and want of memory

abbrev pub form_text : FormKind → List ℕ
form_text WrongCount = codes "wrong number of arguments"
form_text NotAFormula = codes "not a formula"
form_text NotATerm = codes "not a term"
form_text NumberTooLarge = codes "number too large"
form_text ReservedName = codes "reserved name"
form_text DuplicateVariable = codes "duplicate variable"
form_text MisplacedPattern = codes "misplaced pattern"
form_text EmptyList = codes "empty list"

abbrev pub refusal_text : Refusal → List ℕ
refusal_text (Form kind) = form_text kind
refusal_text NothingToPop = codes "nothing to pop"
refusal_text Redefined = codes "predicate defined already"

unfoldable pub why_line : Refusal → List ℕ
why_line why = codes ": " ++ (refusal_text why ++ codes ".\n")

-- a word, a place and how it goes on
abbrev pub place_line : List ℕ → ℕ → List ℕ → List ℕ
place_line words place rest = words ++ (decimal place ++ rest)

abbrev pub memory_text : Option ℕ → ℕ → List ℕ
memory_text (Some goal) place = goal_line goal (codes ": Out of memory.\n")
memory_text None place = place_line (codes "Out of memory at byte ") place (codes ".\n")

-- ---- reports

unfoldable pub report_text : List (List ℕ) → Show → Report → List ℕ
report_text names show (Valid goal log formulas) =
    facts_text names show log formulas ++ valid_line goal
report_text names show (Invalid goal found) = found_text names show found ++ invalid_line goal
report_text names show (Unknown goal cause) = unknown_text goal cause
report_text names show (Refused place why) =
    place_line (codes "Refused at byte ") place (why_line why)
report_text names show (Memory goal place) = memory_text goal place
report_text names show Done = []

-- the log of a valid goal has a formula for each fact
abbrev pub HasEachFormula : Report → Type 0
HasEachFormula (Valid goal log formulas) = length formulas ≡ length log
HasEachFormula r = Unit {0}
