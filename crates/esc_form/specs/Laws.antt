-- What holds of what is read.
use Rattle.std.specs.Prelude.{◌≡◌, ℕ, IsTrue, List, Some, None, Ok}
use Rattle.std.specs.List.{list_all}
use Rattle.esc_sexp.specs.declared.sexp.Sexp.{Sexp}
use Rattle.esc_term.specs.Formula.{is_closed}
use Rattle.esc_names.specs.Rows.{HasDistinctRows}
use Rattle.esc_read.specs.Reading.{Extends, Numbering, Numbers}
use Rattle.esc_form.specs.declared.command.Command.{Command}
use Rattle.esc_form.specs.declared.command.Kind.{Kind}
use Rattle.esc_form.specs.declared.command.Kind.TheVariants as kind
use Rattle.esc_form.specs.Commands.{command}

-- each formula of the command is closed
abbrev pub IsClosedKind : Kind → Type 0
IsClosedKind (kind.Goal f) = IsTrue (is_closed f)
IsClosedKind (kind.Push fs) = IsTrue (list_all is_closed fs)
IsClosedKind kind.Pop = Unit {0}
IsClosedKind (kind.Define name count place (Some rule)) = IsTrue (is_closed rule)
IsClosedKind (kind.Define name count place None) = Unit {0}
IsClosedKind kind.Prompt = Unit {0}

abbrev pub CommandsAreClosed : Type 0
CommandsAreClosed = (e : Sexp) (number : Numbering) (c : Command) → command e number ≡ Ok c
    → IsClosedKind c.kind

-- a table in which each name stands once has a numbering
abbrev pub TablesAreNumbered : Type 0
TablesAreNumbered = (names : List (List ℕ)) → HasDistinctRows names
    → (number : Numbering) × Numbers names number

-- what is read by the numbers of a table is so by those of the table when it has grown
abbrev pub ReadingsStay : Type 0
ReadingsStay = (before after : List (List ℕ)) (number : Numbering) → Extends before after
    → Numbers after number → Numbers before number
