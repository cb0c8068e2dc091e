-- What holds of tokens and terms that are read.
use Rattle.std.specs.Prelude.{◌≡◌, ℕ, IsTrue, List, length, Ok}
use Rattle.esc_names.specs.BareNames.{is_bare_name}
use Rattle.esc_sexp.specs.declared.sexp.Sexp.{Sexp}
use Rattle.esc_term.specs.declared.term.Term.{Term}
use Rattle.esc_term.specs.Term.{binds_term}
use Rattle.esc_read.specs.declared.token.Token.TheVariants as token
use Rattle.esc_read.specs.Reading.{Numbering, Variables}
use Rattle.esc_read.specs.Terms.{term}
use Rattle.esc_read.specs.Tokens.{bare_token}

-- a bare name is a name where it stands without bars
abbrev pub BareNamesAreNames : Type 0
BareNamesAreNames = (text : List ℕ) → IsTrue (is_bare_name text) → bare_token text ≡ token.Name

-- a term has no other variables than those in scope
abbrev pub VariablesAreInScope : Type 0
VariablesAreInScope = (e : Sexp) (scope : Variables) (number : Numbering) (t : Term)
    → term e scope number ≡ Ok t → IsTrue (binds_term (length scope) t)
