-- What a numeral gives that is not too large.
use Rattle.std.proofs.Common.{◌≡◌, ℕ, ◌-◌, ◌^◌, ◌≤◌, min, ℤ, pos, neg_ℤ, ◌-ℤ◌, true, false, List}
use Rattle.std.proofs.Common.{Ok, sym, ◌∙◌, ap, arith, w64}
use Rattle.std.proofs.lemmas.Int.{ints, to_z-of_z, to_z_pos}
use Rattle.std.proofs.Common.{to_z, of_z}
use Rattle.std.proofs.lemmas.Bool.Decides.{nat_tests}
use Rattle.std.specs.Prelude.{nat_le, if◌then◌else◌}
use Rattle.esc_term.specs.declared.term.Term.TheVariants.{Num}
use Rattle.esc_read.specs.Reading.{Plain}
use Rattle.esc_names.specs.BareNames.{digits_of}
use Rattle.esc_read.specs.Tokens.{decimal_value, is_negative, numeral}
use Rattle.esc_read.specs.Terms.{numeral_term, largest}
use Rattle.esc_read.proofs.Readings.{Plain-give}

-- a value that does not stand still is the one that is written
pub written : (value size : ℕ) → value ≡ min size (2 ^ 64 - 1) → value ≤ 9223372036854775807
    → size ≡ value
written value size e h = omega arith

gives_numeral : (place : ℕ) (text : List ℕ) (n : ℤ) → decimal_value (digits_of text) ≤ largest
    → n ≡ numeral text → Plain (Ok (Num n)) (numeral_term place text)
unfolding numeral_term
gives_numeral place text n h e =
    let fits : nat_le (decimal_value (digits_of text)) largest ≡ true = grind (arith, nat_tests) in
    rw (fits, e) (Plain-give (Num (numeral text)))

pub positive : (place : ℕ) (text : List ℕ) (value : ℕ) → decimal_value (digits_of text) ≡ value
    → value ≤ 9223372036854775807 → false ≡ is_negative text
    → Plain (Ok (Num (to_z w64 value))) (numeral_term place text)
positive place text value size h sign =
    gives_numeral place text (to_z w64 value) (omega arith)
    (to_z_pos w64 value (omega arith) ∙ ap pos (sym size)
    ∙ ap (λ b. if b then neg_ℤ (pos (decimal_value (digits_of text))) else pos
    (decimal_value (digits_of text))) sign)

turned : (m n : ℕ) → m ≡ n → pos 0 -ℤ pos m ≡ neg_ℤ (pos n)
turned m n e = rw e (omega (arith, ints))

pub negated : (place : ℕ) (text : List ℕ) (value : ℕ) → decimal_value (digits_of text) ≡ value
    → value ≤ 9223372036854775807 → true ≡ is_negative text
    → Plain (Ok (Num (to_z w64 (of_z w64 (pos 0 -ℤ to_z w64 value))))) (numeral_term place text)
negated place text value size h sign =
    let same : to_z w64 value ≡ pos value = to_z_pos w64 value (omega arith) in
    gives_numeral place text _ (omega arith)
    (ap (λ n. to_z w64 (of_z w64 (pos 0 -ℤ n))) same
    ∙ to_z-of_z w64 (pos 0 -ℤ pos value) (omega (arith, ints))
    ∙ turned value _ (sym size)
    ∙ ap (λ b. if b then neg_ℤ (pos (decimal_value (digits_of text))) else pos
    (decimal_value (digits_of text))) sign)
