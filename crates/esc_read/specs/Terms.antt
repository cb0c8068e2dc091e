-- What an expression reads as where a term is wanted.
use Rattle.std.specs.Prelude.{ℕ, Bool, ◌||◌, ◌==◌, nat_le, if◌then◌else◌, List, [], ◌∷◌, map}
use Rattle.std.specs.Prelude.{length, drop, Option, Some, None}
use Rattle.esc_sexp.specs.declared.sexp.Sexp.{Sexp}
use Rattle.esc_sexp.specs.declared.sexp.Sexp.TheOpen.{Sexp-F}
use Rattle.esc_sexp.specs.declared.sexp.Sexp.TheFolds.{para-Sexp}
use Rattle.esc_term.specs.declared.term.Head.{Head}
use Rattle.esc_term.specs.declared.term.Head.TheVariants as head
use Rattle.esc_term.specs.declared.term.Term.{Term}
use Rattle.esc_term.specs.declared.term.Term.TheVariants.{Num, Var, App}
use Rattle.esc_read.specs.declared.fault.FormKind.TheVariants.{NotATerm, NumberTooLarge, EmptyList}
use Rattle.esc_read.specs.declared.term.TermHead.{TermHead}
use Rattle.esc_read.specs.declared.term.TermHead.TheVariants as by
use Rattle.esc_names.specs.declared.key.Operator.{Operator}
use Rattle.esc_names.specs.declared.key.Operator.TheVariants as operator
use Rattle.esc_names.specs.declared.key.Key.TheVariants as key
use Rattle.esc_read.specs.declared.token.Token.{Token}
use Rattle.esc_read.specs.declared.token.Token.TheVariants as token
use Rattle.esc_read.specs.Reading.{Reading, depth_of, give, refuse, name_number, ◌>>=◌, ◌<$>◌, each}
use Rattle.esc_read.specs.Reading.{counted}
use Rattle.esc_names.specs.BareNames.{digits_of}
use Rattle.esc_read.specs.Tokens.{bare_token, decimal_value, numeral, place_of, text_of, token_of}
use Rattle.esc_read.specs.Names.{permit, symbol}

-- the largest absolute value of a numeral
abbrev pub largest : ℕ
largest = 9223372036854775807

unfoldable pub numeral_term : ℕ → List ℕ → Reading Term
numeral_term place text =
    if nat_le (decimal_value (digits_of text)) largest then give (Num (numeral text))
    else refuse NumberTooLarge place

-- the variable with so many variables inside it, or a constant
abbrev pub variable_or_constant : Option ℕ → List ℕ → Reading Term
variable_or_constant (Some k) name = give (Var k)
variable_or_constant None name = do
  symbol ← name_number name
  give (App (head.Name symbol) [])

-- a name alone
unfoldable pub name_term : ℕ → List ℕ → Reading Term
name_term place text = do
  _ ← permit place text
  depth ← depth_of text
  variable_or_constant depth text

abbrev pub bare_term_by : Token → ℕ → List ℕ → Reading Term
bare_term_by token.Numeral place text = numeral_term place text
bare_term_by token.Name place text = name_term place text
bare_term_by (token.Word _) place text = refuse NotATerm place
bare_term_by token.List place text = refuse NotATerm place

unfoldable pub bare_term : ℕ → List ℕ → Reading Term
bare_term place text = bare_term_by (bare_token text) place text

-- a name as head: without arguments it is the name alone
abbrev pub application : ℕ → List ℕ → List (Reading Term) → Reading Term
application place text [] = name_term place text
application place text (arg ∷ args) = do
  name ← symbol place text
  App (head.Name name) <$> each (arg ∷ args)

-- sums and products have two arguments or more, a difference one or two
abbrev pub takes : Operator → ℕ → Bool
takes operator.Add count = nat_le 2 count
takes operator.Mul count = nat_le 2 count
takes operator.Sub count = (count == 1) || (count == 2)

abbrev pub operation : Operator → Head
operation operator.Add = head.Add
operation operator.Sub = head.Sub
operation operator.Mul = head.Mul

abbrev pub calculation : Operator → ℕ → List (Reading Term) → Reading Term
calculation op place args =
    counted (takes op (length args)) place (App (operation op) <$> each args)

abbrev pub term_head : Token → TermHead
term_head token.Name = by.Name
term_head (token.Word (key.Calculate op)) = by.Operator op
term_head t = by.Other

abbrev pub list_term_by : TermHead → ℕ → Sexp → List (Reading Term) → Reading Term
list_term_by by.Name place f args = application (place_of f) (text_of f) args
list_term_by (by.Operator op) place f args = calculation op place args
list_term_by by.Other place f args = refuse NotATerm (place_of f)

-- a list at this place, whose expressions read so as terms
abbrev pub list_term : ℕ → List Sexp → List (Reading Term) → Reading Term
list_term place [] readings = refuse EmptyList place
list_term place (f ∷ args) readings =
    list_term_by (term_head (token_of f)) place f (drop 1 readings)

-- one level, where each part stands beside its reading
abbrev pub term_step : Sexp-F (Sexp × Reading Term) → Reading Term
term_step (Sexp-F.Bare place text) = bare_term place text
term_step (Sexp-F.Barred place text) = name_term place text
term_step (Sexp-F.List place items) =
    list_term place (map (λ item. item.0) items) (map (λ item. item.1) items)

-- the term that an expression is
unfoldable pub term : Sexp → Reading Term
term = para-Sexp (Reading Term) term_step
