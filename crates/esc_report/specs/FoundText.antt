-- The text of a counterexample.
use Rattle.std.specs.Prelude.{ℕ, if◌then◌else◌, nat_eq, List, [], ◌++◌, codes, length}
use Rattle.std.specs.Prelude.{Option, Some, None}
use Rattle.std.specs.List.{flat_map}
use Rattle.esc_term.specs.declared.formula.Item.{Item}
use Rattle.esc_term.specs.declared.term.Sym.{Sym}
use Rattle.esc_frac.specs.Rational.{ℚ}
use Rattle.esc_print.specs.Formulas.{literal_text}
use Rattle.esc_print.specs.Fractions.{frac_text}
use Rattle.esc_print.specs.Names.{name_text}
use Rattle.esc_outcome.specs.declared.counterexample.Class.{Class}
use Rattle.esc_outcome.specs.declared.counterexample.Counterexample.{Counterexample}
use Rattle.esc_options.specs.declared.options.Show.{Show}
use Rattle.esc_report.specs.Listed.{listed, terms_text}

unfoldable pub found_opening : List ℕ
found_opening = codes "Counterexample:\n"

-- the names of the labels on a line, where there is one
unfoldable pub labels_line : List (List ℕ) → List Sym → List ℕ
labels_line names labels =
    if nat_eq (length labels) 0 then []
    else codes "  labels: " ++ (listed (name_text names) labels ++ codes "\n")

-- a literal on a line of its own, behind four blanks
unfoldable pub literal_line : List (List ℕ) → Item → List ℕ
literal_line names item = codes "    " ++ (literal_text names item ++ codes "\n")

abbrev pub literal_lines : List (List ℕ) → List Item → List ℕ
literal_lines names = flat_map (literal_line names)

unfoldable pub context_opening : List ℕ
context_opening = codes "  context:\n"

abbrev pub context_text : List (List ℕ) → List Item → List ℕ
context_text names literals = context_opening ++ literal_lines names literals

-- the value of a class, where it has one
abbrev pub value_text : Option ℚ → List ℕ
value_text (Some q) = codes " = " ++ frac_text q
value_text None = []

-- the terms of a class on a line of their own, behind four blanks
unfoldable pub class_line : List (List ℕ) → Class → List ℕ
class_line names class =
    codes "    " ++ (terms_text names class.terms ++ (value_text class.value ++ codes "\n"))

abbrev pub class_lines : List (List ℕ) → List Class → List ℕ
class_lines names = flat_map (class_line names)

unfoldable pub classes_opening : List ℕ
classes_opening = codes "  classes:\n"

-- the classes, where they are asked for
abbrev pub classes_text : List (List ℕ) → Show → List Class → List ℕ
classes_text names show classes =
    if show.model then classes_opening ++ class_lines names classes else []

-- the labels, the literals and the classes
abbrev pub found_text : List (List ℕ) → Show → Counterexample → List ℕ
found_text names show found =
    found_opening ++ (labels_line names found.labels
    ++ (context_text names found.literals ++ classes_text names show found.classes))
