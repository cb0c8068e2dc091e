-- Digests: numbers by which terms are looked up, that of a term made of those of its arguments.
-- Nothing rests on a digest being one for each term: `==` decides.
use Rattle.std.specs.Prelude.{ℕ, ◌*◌, ◌/◌, ◌%◌, ◌^◌, List, bit_xor}
use Rattle.std.specs.Hash.{HashWrites, Alike, same_Alike, u64}
use Rattle.std.specs.Int.{cast_unsigned, rotate_left}
use Rattle.std.specs.List.{fold}
use mir.Syntax.{w64}
use Rattle.esc_term.specs.declared.term.Head.{Head}
use Rattle.esc_term.specs.declared.term.Head.TheVariants.{Name, Skolem, Add, Sub, Mul}
use Rattle.esc_term.specs.declared.term.Term.{Term}
use Rattle.esc_term.specs.declared.term.Term.TheOpen.{Term-F}
use Rattle.esc_term.specs.declared.term.Term.TheFolds.{fold-Term}
use Rattle.esc_term.specs.Equal.{same_term, same_term-is}

-- a number after a word is mixed into it
unfoldable pub mixed : ℕ → ℕ → ℕ
mixed start word =
    let product : ℕ = (bit_xor (rotate_left w64 start 23) word * 11400714819323198485) % 2 ^ 64 in
    bit_xor product (product / 2 ^ 32)

abbrev pub head_digest : Head → ℕ
head_digest (Name name) = mixed 2 name.0
head_digest (Skolem n i) = mixed (mixed 3 n) i
head_digest Add = 4
head_digest Sub = 5
head_digest Mul = 6

abbrev pub digest_step : Term-F ℕ → ℕ
digest_step (Term-F.Num n) = mixed 0 (cast_unsigned w64 n)
digest_step (Term-F.Var k) = mixed 1 k
digest_step (Term-F.App head args) = fold mixed (head_digest head) args

unfoldable pub digest : Term → ℕ
digest = fold-Term ℕ digest_step

abbrev pub term_mixed : ℕ → Term → ℕ
term_mixed start t = mixed start (digest t)

abbrev pub terms_mixed : ℕ → List Term → ℕ
terms_mixed start ts = fold term_mixed start ts

-- what a term gives to a hasher
abbrev pub hashed : Term → HashWrites
hashed t = u64 (digest t)

pub hashed-alike : Alike same_term hashed
hashed-alike = same_Alike hashed same_term-is
