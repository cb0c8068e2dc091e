-- What stands at the front of an expression.
use Rattle.std.specs.Prelude.{ℕ, ◌+◌, ◌*◌, ◌-◌, ℤ, pos, neg_ℤ, Bool, false, ◌==◌, if◌then◌else◌}
use Rattle.std.specs.Prelude.{List, [], ◌∷◌, drop, Option, Some, None}
use Rattle.std.specs.List.{fold}
use Rattle.esc_names.specs.declared.key.Key.{Key}
use Rattle.esc_names.specs.BareNames.{digits_of, is_numeral}
use Rattle.esc_names.specs.Reserved.{key_of}
use Rattle.esc_sexp.specs.declared.sexp.Sexp.{Sexp, out-Sexp}
use Rattle.esc_sexp.specs.declared.sexp.Sexp.TheOpen.{Sexp-F}
use Rattle.esc_read.specs.declared.token.Token.{Token}
use Rattle.esc_read.specs.declared.token.Token.TheVariants as token

-- ---- numerals

-- the number that digits write
abbrev pub decimal_value : List ℕ → ℕ
decimal_value = fold (λ n b. n * 10 + (b - 48)) 0

abbrev pub is_negative : List ℕ → Bool
is_negative [] = false
is_negative (b ∷ bs) = b == 45

abbrev pub numeral : List ℕ → ℤ
numeral text =
    let size = pos (decimal_value (digits_of text)) in
    if is_negative text then neg_ℤ size else size

-- ---- tokens

abbrev pub word_or_name : Option Key → Token
word_or_name (Some key) = token.Word key
word_or_name None = token.Name

-- a text without bars
unfoldable pub bare_token : List ℕ → Token
bare_token text = if is_numeral text then token.Numeral else word_or_name (key_of text)

abbrev pub token_step : Sexp-F Sexp → Token
token_step (Sexp-F.Bare place text) = bare_token text
token_step (Sexp-F.Barred place text) = token.Name
token_step (Sexp-F.List place items) = token.List

abbrev pub place_step : Sexp-F Sexp → ℕ
place_step (Sexp-F.Bare place text) = place
place_step (Sexp-F.Barred place text) = place
place_step (Sexp-F.List place items) = place

abbrev pub text_step : Sexp-F Sexp → List ℕ
text_step (Sexp-F.Bare place text) = text
text_step (Sexp-F.Barred place text) = text
text_step (Sexp-F.List place items) = []

unfoldable pub token_of : Sexp → Token
token_of e = token_step (out-Sexp e)

-- the place of its first byte
unfoldable pub place_of : Sexp → ℕ
place_of e = place_step (out-Sexp e)

-- the spelling of a token
unfoldable pub text_of : Sexp → List ℕ
text_of e = text_step (out-Sexp e)

-- ---- lists

abbrev pub first_token : List Sexp → Token
first_token [] = token.List
first_token (head ∷ args) = token_of head

abbrev pub head_step : Sexp-F Sexp → Token
head_step (Sexp-F.List place items) = first_token items
head_step level = token.List

abbrev pub args_step : Sexp-F Sexp → List Sexp
args_step (Sexp-F.List place items) = drop 1 items
args_step level = []

-- what the head of a list is; where there is none, it is no token
unfoldable pub head_of : Sexp → Token
head_of e = head_step (out-Sexp e)

-- what stands behind the head of a list
unfoldable pub args_of : Sexp → List Sexp
args_of e = args_step (out-Sexp e)
