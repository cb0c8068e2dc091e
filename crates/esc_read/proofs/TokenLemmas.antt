-- What a bare token is.
use Rattle.std.proofs.Common.{◌≡◌, Bool, true, false, ◌&&◌, refl, Option, Some, None}
use Rattle.std.specs.Prelude.{not, if◌then◌else◌, is_some}
use Rattle.esc_names.specs.declared.key.Key.{Key}
use Rattle.esc_names.specs.BareNames.{is_bare_byte, is_bare_name, is_numeral, is_reserved}
use Rattle.esc_names.specs.BareNames.{is_run_of}
use Rattle.esc_names.specs.Reserved.{key_of}
use Rattle.esc_read.specs.declared.token.Token.TheVariants as token
use Rattle.esc_read.specs.Laws.{BareNamesAreNames}
use Rattle.esc_read.specs.Tokens.{bare_token, word_or_name}

name_by : (run numeral : Bool) (key : Option Key) → (run && not numeral && not (is_some key)) ≡ true
    → (if numeral then token.Numeral else word_or_name key) ≡ token.Name
name_by false numeral key e = cc
name_by true true key e = cc
name_by true false (Some key) e = cc
name_by true false None e = refl

pub bare_names_are_names : BareNamesAreNames
unfolding is_bare_name is_reserved bare_token
bare_names_are_names text h =
    name_by (is_run_of is_bare_byte text) (is_numeral text) (key_of text) h
