-- A printed name is one token, which reads as that name.
use Rattle.std.proofs.Common.{◌≡◌, ℕ, ◌≤◌, List, [], ◌∷◌, ◌++◌, Bool, true, false}
use Rattle.std.proofs.Common.{◌&&◌, ◌||◌, ◌==◌, nat_le, refl, ◌∙◌, arith}
use Rattle.std.proofs.lemmas.Bool.{leb-true, lt-leb, ne_eqb}
use Rattle.std.specs.Prelude.{not, if◌then◌else◌, IsTrue, codes}
use Rattle.std.specs.List.{list_all, AllByRecursion as Each}
use Rattle.esc_names.specs.BareNames.{begins_with_at, is_bare_byte, is_bare_name, is_numeral}
use Rattle.esc_names.specs.BareNames.{is_reserved, is_run_of}
use Rattle.esc_sexp.specs.Bytes as class
use Rattle.esc_sexp.specs.declared.sexp.Sexp.{Sexp}
use Rattle.esc_sexp.specs.declared.sexp.Sexp.TheVariants as sexp
use Rattle.esc_sexp.specs.Bytes.{class_of, is_bare, is_bare_class}
use Rattle.esc_sexp.specs.Grammar.{IsBarText, IsBareText, Spells, bare, barred}
use Rattle.esc_read.specs.Laws.{BareNamesAreNames}
use Rattle.esc_read.specs.declared.token.Token.TheVariants as token
use Rattle.esc_read.specs.Tokens.{place_of, text_of, token_of}
use Rattle.esc_read.proofs.Levels.{place_of-Bare, place_of-Barred, text_of-Bare, text_of-Barred}
use Rattle.esc_read.proofs.Levels.{token_of-Bare, token_of-Barred}
use Rattle.esc_report.specs.PrintingLaws.{PrintedNamesReadBack}

-- ---- bytes

bare_by : (blank from to left right semi bar : Bool) → blank ≡ false
    → (from && to && not left && not right && not semi && not bar) ≡ true
    → is_bare_class (if blank then class.blank
    else (if semi then class.semicolon
    else (if left then class.opening
    else (if right then class.closing
    else (if bar then class.bar
    else (if from && to then class.bare else class.bad)))))) ≡ true
bare_by true from to left right semi bar e h = cc
bare_by false false to left right semi bar e h = cc
bare_by false true false left right semi bar e h = cc
bare_by false true true true right semi bar e h = cc
bare_by false true true false true semi bar e h = cc
bare_by false true true false false true bar e h = cc
bare_by false true true false false false true e h = cc
bare_by false true true false false false false e h = refl

from_by : (from to left right semi bar : Bool)
    → (from && to && not left && not right && not semi && not bar) ≡ true → from ≡ true
from_by true to left right semi bar h = refl
from_by false to left right semi bar h = cc

not_32 : (b : ℕ) → 33 ≤ b → b ≡ 32 → ⊥
not_32 b h e = omega arith

blank_by : (x y z : Bool) → x ≡ false → z ≡ false → (x || (y && z)) ≡ false
blank_by true y z e f = e
blank_by false true z e f = f
blank_by false false z e f = refl

no_blank : (b : ℕ) → 33 ≤ b → ((b == 32) || (nat_le 9 b && nat_le b 13)) ≡ false
no_blank b h = blank_by (b == 32) (nat_le 9 b) (nat_le b 13) (ne_eqb b 32 (not_32 b h))
    (lt-leb b 13 (omega arith))

bare_byte : (b : ℕ) → is_bare_byte b ≡ true → is_bare b ≡ true
unfolding is_bare_byte class_of
bare_byte b h =
    let from = from_by (nat_le 33 b) (nat_le b 126) (b == 40) (b == 41) (b == 59) (b == 124) h in
    bare_by ((b == 32) || (nat_le 9 b && nat_le b 13)) (nat_le 33 b) (nat_le b 126) (b == 40)
    (b == 41) (b == 59) (b == 124)
    (no_blank b (leb-true 33 b from)) h

-- ---- texts

first_of : (a b : Bool) → (a && b) ≡ true → a ≡ true
first_of true b h = refl
first_of false b h = h

second_of : (a b : Bool) → (a && b) ≡ true → b ≡ true
second_of true b h = h
second_of false b h = cc

each_bare : (text : List ℕ) → list_all is_bare_byte text ≡ true
    → Each (λ b. IsTrue (is_bare b)) text
each_bare [] h = tt
each_bare (b ∷ bs) h = (
  bare_byte b (first_of (is_bare_byte b) (list_all is_bare_byte bs) h),
  each_bare bs
      (second_of (is_bare_byte b) (list_all is_bare_byte bs) h),
)

bare_text : (text : List ℕ) → is_run_of is_bare_byte text ≡ true → IsBareText text
bare_text [] h = cc
bare_text (b ∷ bs) h = (omega arith, each_bare (b ∷ bs) h)

run_of_bare_name : (run rest more : Bool) → (run && rest && more) ≡ true → run ≡ true
run_of_bare_name true rest more h = refl
run_of_bare_name false rest more h = cc

read_bare : BareNamesAreNames → (depth place : ℕ) (text : List ℕ) → is_bare_name text ≡ true
    → (e : Sexp) × Spells depth place text e
    × (token_of e ≡ token.Name) × (text_of e ≡ text) × (place_of e ≡ place)
unfolding is_bare_name
read_bare names depth place text h = (
  sexp.Bare place text,
  bare depth place text (bare_text text
      (run_of_bare_name (is_run_of is_bare_byte text) (not (is_numeral text))
      (not (is_reserved text)) h)),
  token_of-Bare place text ∙ names text h,
  text_of-Bare place text,
  place_of-Bare place text,
)

read_barred : (depth place : ℕ) (text : List ℕ) → IsBarText text
    → (e : Sexp) × Spells depth place (codes "|" ++ (text ++ codes "|")) e
    × (token_of e ≡ token.Name) × (text_of e ≡ text) × (place_of e ≡ place)
read_barred depth place text h = (
  sexp.Barred place text,
  barred depth place text (codes "|" ++ (text ++ codes "|")) h refl,
  token_of-Barred place text,
  text_of-Barred place text,
  place_of-Barred place text,
)

by_test : BareNamesAreNames → (depth place : ℕ) (text : List ℕ) (bare_name at : Bool)
    → is_bare_name text ≡ bare_name → IsBarText text
    → (e : Sexp) × Spells depth place (if bare_name && not at then text else codes "|"
    ++ (text ++ codes "|")) e
    × (token_of e ≡ token.Name) × (text_of e ≡ text) × (place_of e ≡ place)
by_test names depth place text true false e h = read_bare names depth place text e
by_test names depth place text true true e h = read_barred depth place text h
by_test names depth place text false at e h = read_barred depth place text h

pub printed_names_read_back : BareNamesAreNames → PrintedNamesReadBack
printed_names_read_back names depth place spelling h =
    by_test names depth place spelling (is_bare_name spelling) (begins_with_at spelling) refl h
