-- The line that a run writes last.
use Rattle.std.specs.Prelude.{ℕ, List, [], ◌++◌, codes, decimal}
use Rattle.esc_sexp.specs.declared.sexp.SexpFault.{SexpFault}
use Rattle.esc_sexp.specs.declared.sexp.SexpKind.{SexpKind}
use Rattle.esc_sexp.specs.declared.sexp.SexpKind.TheVariants.{Unclosed, StrayClose, BadByte}
use Rattle.esc_sexp.specs.declared.sexp.SexpKind.TheVariants.{OpenBar, TooDeep, TooLong}
use Rattle.esc_top.specs.declared.status.Status.{Status}
use Rattle.esc_top.specs.declared.status.Status.TheVariants.{Proved, Answered, BadWords, Syntax}
use Rattle.esc_top.specs.declared.status.Status.TheVariants.{ReadFault, WriteFault, Memory, TooMuch}

abbrev pub kind_text : SexpKind → List ℕ
kind_text Unclosed = codes "unclosed parenthesis"
kind_text StrayClose = codes "stray closing parenthesis"
kind_text BadByte = codes "bad byte"
kind_text OpenBar = codes "unclosed bar"
kind_text TooDeep = codes "nesting too deep"
kind_text TooLong = codes "command too long"

unfoldable pub fault_opening : List ℕ
fault_opening = codes "Syntax fault at byte "

-- what is wrong, behind its place
unfoldable pub kind_line : SexpKind → List ℕ
kind_line kind = codes ": " ++ (kind_text kind ++ codes ".\n")

abbrev pub fault_line : SexpFault → List ℕ
fault_line fault = fault_opening ++ (decimal fault.place ++ kind_line fault.kind)

-- how the program is called, as far as its words go
unfoldable pub usage_line : List ℕ
usage_line = codes "usage: simplify [--log] [--model] [--depth N] [--rounds N] [--facts N]"
    ++ codes " [--splits N] [--pivots N]\n"

abbrev pub last_line : Status → List ℕ
last_line Proved = []
last_line Answered = []
last_line BadWords = usage_line
last_line (Syntax fault) = fault_line fault
last_line ReadFault = codes "Read fault.\n"
last_line WriteFault = []
last_line Memory = codes "Out of memory.\n"
last_line TooMuch = codes "Input too long.\n"
