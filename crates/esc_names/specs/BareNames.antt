-- What a spelling says where it stands without bars: a numeral, a reserved word, or a name.
use Rattle.std.specs.Prelude.{ℕ, Bool, false, not, ◌&&◌, ◌==◌, nat_le, is_some, if◌then◌else◌, List}
use Rattle.std.specs.Prelude.{[], ◌∷◌}
use Rattle.std.specs.List.{list_all}
use Rattle.esc_names.specs.Reserved.{key_of}

-- one byte or more, each of which passes the test
abbrev pub is_run_of : (ℕ → Bool) → List ℕ → Bool
is_run_of test [] = false
is_run_of test (b ∷ bs) = list_all test (b ∷ bs)

-- ---- numerals

abbrev pub is_digit : ℕ → Bool
is_digit b = nat_le 48 b && nat_le b 57

-- what stands behind a minus sign, if there is one
abbrev pub digits_of : List ℕ → List ℕ
digits_of [] = []
digits_of (b ∷ bs) = if b == 45 then bs else b ∷ bs

-- one digit or more, perhaps behind a minus sign
unfoldable pub is_numeral : List ℕ → Bool
is_numeral text = is_run_of is_digit (digits_of text)

-- ---- names

unfoldable pub is_reserved : List ℕ → Bool
is_reserved text = is_some (key_of text)

-- a byte that may stand in a bare token: a visible one that is no parenthesis, bar or semicolon
unfoldable pub is_bare_byte : ℕ → Bool
is_bare_byte b =
    nat_le 33 b && nat_le b 126 && not (b == 40) && not (b == 41) && not (b == 59) && not (b == 124)

-- a bare token with this spelling is the name that is spelled so
unfoldable pub is_bare_name : List ℕ → Bool
is_bare_name text = is_run_of is_bare_byte text && not (is_numeral text) && not (is_reserved text)

-- so begin the names that the prover makes, and the name of truth
abbrev pub begins_with_at : List ℕ → Bool
begins_with_at [] = false
begins_with_at (b ∷ bs) = b == 64
