-- Names, variables and labels.
use Rattle.std.specs.Prelude.{ℕ, Bool, ◌||◌, ◌==◌, if◌then◌else◌, List, [], ◌∷◌, codes}
use Rattle.std.specs.List.{list_any, starts_with}
use Rattle.std.specs.Str.{bytes_eq}
use Rattle.esc_sexp.specs.declared.sexp.Sexp.{Sexp, out-Sexp}
use Rattle.esc_sexp.specs.declared.sexp.Sexp.TheOpen.{Sexp-F}
use Rattle.esc_term.specs.declared.term.Sym.{Sym}
use Rattle.esc_read.specs.declared.fault.FormKind.TheVariants.{NotATerm, ReservedName}
use Rattle.esc_read.specs.declared.fault.FormKind.TheVariants.{DuplicateVariable}
use Rattle.esc_read.specs.declared.token.Token.{Token}
use Rattle.esc_read.specs.declared.token.Token.TheVariants as token
use Rattle.esc_read.specs.Reading.{Reading, Variables, give, refuse, name_number, ◌>>=◌}
use Rattle.esc_read.specs.Tokens.{place_of, text_of, token_of}

-- the prover makes names that begin so
abbrev pub is_kept : List ℕ → Bool
is_kept text = starts_with (◌==◌) text (codes "@sk.") || starts_with (◌==◌) text (codes "@v.")

-- a token at this place may be taken as a name
unfoldable pub permit : ℕ → List ℕ → Reading (Unit {0})
permit place text = if is_kept text then refuse ReservedName place else give tt

unfoldable pub symbol : ℕ → List ℕ → Reading Sym
symbol place text = do
  _ ← permit place text
  name_number text

-- any token is a label
abbrev pub label_by : Token → Sexp → Reading Sym
label_by token.List e = refuse NotATerm (place_of e)
label_by t e = symbol (place_of e) (text_of e)

unfoldable pub label : Sexp → Reading Sym
label e = label_by (token_of e) e

-- ---- lists of variables

abbrev pub differs : Variables → ℕ → List ℕ → Reading (Unit {0})
differs own place text =
    if list_any (bytes_eq text) own then refuse DuplicateVariable place else give tt

abbrev pub variable_by : Token → Variables → Sexp → Reading (Unit {0})
variable_by token.Name own e = do
  _ ← permit (place_of e) (text_of e)
  differs own (place_of e) (text_of e)
variable_by t own e = refuse NotATerm (place_of e)

-- the expression may be a variable of a list, whose variables so far are these
unfoldable pub variable : Variables → Sexp → Reading (Unit {0})
variable own e = variable_by (token_of e) own e

-- the variables of a list, the last of them first, where these came before
abbrev pub declared : Variables → List Sexp → Reading Variables
declared own [] = give own
declared own (e ∷ es) = do
  _ ← variable own e
  declared (text_of e ∷ own) es

abbrev pub variables_step : ℕ → Sexp-F Sexp → Reading Variables
variables_step place (Sexp-F.List at items) = declared [] items
variables_step place other = refuse NotATerm place

-- the variables that a quantifier binds, the innermost first
unfoldable pub variables : Sexp → Reading Variables
variables e = variables_step (place_of e) (out-Sexp e)
