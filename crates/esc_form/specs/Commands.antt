-- What an expression reads as as a command.
use Rattle.std.specs.Prelude.{ℕ, zero, suc, Bool, true, false, nat_le, if◌then◌else◌, List, [], ◌∷◌}
use Rattle.std.specs.Prelude.{map, length, Option, Some, None}
use Rattle.esc_sexp.specs.declared.sexp.Sexp.{Sexp, out-Sexp}
use Rattle.esc_sexp.specs.declared.sexp.Sexp.TheOpen.{Sexp-F}
use Rattle.esc_term.specs.declared.term.Head.TheVariants as head
use Rattle.esc_term.specs.declared.term.Term.{Term}
use Rattle.esc_term.specs.declared.term.Term.TheVariants.{Var, App}
use Rattle.esc_term.specs.declared.formula.Formula.{Formula}
use Rattle.esc_term.specs.declared.formula.Formula.TheVariants.{Iff}
use Rattle.esc_read.specs.declared.fault.FormKind.TheVariants.{WrongCount, NotAFormula}
use Rattle.esc_names.specs.declared.key.Key.TheVariants as key
use Rattle.esc_names.specs.declared.key.Binder.TheVariants.{Forall}
use Rattle.esc_names.specs.declared.key.Order.{Order}
use Rattle.esc_names.specs.declared.key.Order.TheVariants as order
use Rattle.esc_read.specs.declared.token.Token.{Token}
use Rattle.esc_read.specs.declared.token.Token.TheVariants as token
use Rattle.esc_read.specs.Reading.{Numbering, Outcome, Reading, give, refuse, within, ◌>>=◌, ◌<$>◌}
use Rattle.esc_read.specs.Reading.{each, counted}
use Rattle.esc_read.specs.Tokens.{args_of, head_of, place_of, text_of, token_of}
use Rattle.esc_read.specs.Names.{declared, symbol}
use Rattle.esc_form.specs.declared.command.Command.{Command}
use Rattle.esc_form.specs.declared.command.Kind.{Kind}
use Rattle.esc_form.specs.declared.command.Kind.TheVariants as kind
use Rattle.esc_form.specs.declared.definition.Named.{Named}
use Rattle.esc_form.specs.Formulas.{bound, formula, holds}
use Rattle.esc_form.specs.Patterns.{only_patterns}

-- ---- predicates that are defined

abbrev pub is_name : Token → Bool
is_name token.Name = true
is_name _ = false

-- a predicate's name, from a list at this place
abbrev pub named_list : ℕ → List Sexp → Reading Named
named_list place [] = refuse NotAFormula place
named_list place (f ∷ args) =
    if is_name (token_of f) then (do
      name ← symbol (place_of f) (text_of f)
      give (record { name = name; place = place_of f }))
    else refuse NotAFormula place

abbrev pub named_step : ℕ → Sexp-F Sexp → Reading Named
named_step place (Sexp-F.List at items) = named_list place items
named_step place level = refuse NotAFormula place

-- the name of the predicate that a list defines
unfoldable pub named : Sexp → Reading Named
named e = named_step (place_of e) (out-Sexp e)

-- so many bound variables, the outermost first
abbrev pub bound_variables : ℕ → List Term
bound_variables zero = []
bound_variables (suc n) = Var n ∷ bound_variables n

-- the predicate at so many variables
abbrev pub predicate : Named → ℕ → Term
predicate p count = App (head.Name p.name) (bound_variables count)

-- for all values of the variables the predicate holds exactly where the body does
abbrev pub rule : Named → ℕ → Formula → Formula
rule p count body =
    bound Forall count (only_patterns ((predicate p count ∷ []) ∷ []))
    (Iff (holds (predicate p count)) body)

abbrev pub definition_of : Named → ℕ → Option Formula → Kind
definition_of p count rule = kind.Define p.name count p.place rule

-- what the predicate means, where that is said: a formula in its variables
abbrev pub meaning : Named → ℕ → List Sexp → Reading Kind
meaning p count [] = give (definition_of p count None)
meaning p count (e ∷ es) = do
  body ← formula e
  give (definition_of p count (Some (rule p count body)))

-- ---- commands

abbrev pub order_of : Token → Option Order
order_of (token.Word (key.Command what)) = Some what
order_of _ = None

abbrev pub pushed : ℕ → List Sexp → Reading Kind
pushed place parts =
    counted (nat_le 1 (length parts)) place (kind.Push <$> each (map formula parts))

abbrev pub nothing_behind : Kind → ℕ → List Sexp → Reading Kind
nothing_behind what place [] = give what
nothing_behind what place (part ∷ parts) = refuse WrongCount place

-- the predicate with its variables, and then what it means where that is said
abbrev pub definition : Sexp → List Sexp → Reading Kind
definition e bodies = do
  p ← named e
  own ← declared [] (args_of e)
  within own (meaning p (length own) bodies)

abbrev pub defined : ℕ → List Sexp → Reading Kind
defined place [] = refuse WrongCount place
defined place (e ∷ bodies) = counted (nat_le (length bodies) 1) place (definition e bodies)

abbrev pub goal_of : Sexp → Reading Kind
goal_of e = kind.Goal <$> formula e

-- a list with the word of a command as its head is that command, and any other expression a goal
abbrev pub kind_by : Option Order → Sexp → Reading Kind
kind_by (Some order.Push) e = pushed (place_of e) (args_of e)
kind_by (Some order.Pop) e = nothing_behind kind.Pop (place_of e) (args_of e)
kind_by (Some order.Prompt) e = nothing_behind kind.Prompt (place_of e) (args_of e)
kind_by (Some order.Define) e = defined (place_of e) (args_of e)
kind_by None e = goal_of e

unfoldable pub command_reading : Sexp → Reading Command
command_reading e = do
  what ← kind_by (order_of (head_of e)) e
  give (record { place = place_of e; kind = what })

-- the command that an expression is, by the numbers of the names
abbrev pub command : Sexp → Numbering → Outcome Command
command e number = command_reading e [] number
