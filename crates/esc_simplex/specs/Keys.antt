-- Keys of unknowns: two with different keys differ somewhere within the restrictions. Nothing rests
-- on two with one key being equal.
use Rattle.std.specs.Prelude.{◌≢◌, ◌⊎◌, ℕ, ℤ, pos, ◌<◌, ◌%◌, ◌^◌, List, length, if◌then◌else◌}
use Rattle.std.specs.Int.{cast_unsigned}
use Rattle.std.specs.List.{All, fold}
use mir.Syntax.{w128}
use Rattle.esc_frac.specs.Rational.{ℚ, is_zero}
use Rattle.esc_term.specs.Digest.{mixed}
use Rattle.esc_tableau.specs.Moving.{CanMove}
use Rattle.esc_tableau.specs.Rule.{slope}
use Rattle.esc_tableau.specs.Table.{Table, sample}
use Rattle.esc_cover.specs.Assignment.{Assignment}
use Rattle.esc_simplex.specs.Calls.{IsForTerm}
use Rattle.esc_simplex.specs.Senses.{sense_value}
use Rattle.esc_simplex.specs.View.{Allows, IsSimplex, sense_in}
use Rattle.esc_simplex.specs.declared.simplex.Simplex.{Simplex}

-- the lower half of a number of 128 bits
abbrev pub low_word : ℤ → ℕ
low_word n = cast_unsigned w128 n % 2 ^ 64

-- the lower halves of its two numbers, mixed into a number
unfoldable pub fraction_mixed : ℕ → ℚ → ℕ
fraction_mixed seed q = mixed (mixed seed (low_word q.num)) (low_word (pos q.den))

-- how fast u rises with the owner of a column, where it does, mixed into a number
abbrev pub slope_mixed : Table → ℕ → ℕ → ℕ → ℕ
slope_mixed t u seed c = if is_zero (slope t u c) then seed else
    fraction_mixed (mixed seed c) (slope t u c)

-- the sample of u, and how fast it rises with these columns
abbrev pub key : Table → List ℕ → ℕ → ℕ → ℕ
key t cs seed u = fold (slope_mixed t u) (fraction_mixed seed (sample t u)) cs

-- columns that can move
abbrev pub MayMove : Table → List ℕ → Type 0
MayMove t cs = All (λ c. (c < length t.columns) × CanMove t c) cs

-- something that is allowed gives them different values
abbrev pub ArePartedAt : Simplex → ℕ → ℕ → Type 0
ArePartedAt v u w = (x : Assignment) × Allows v x
    × (sense_value x (sense_in v u) ≢ sense_value x (sense_in v w))

-- where keys by columns that can move differ, their seeds did, or the unknowns are parted
abbrev pub KeysPart : Type 0
KeysPart = (v : Simplex) → IsSimplex v → (cs : List ℕ) → MayMove v.tableau cs
    → (u w : ℕ) → IsForTerm v u → IsForTerm v w → (s r : ℕ)
    → key v.tableau cs s u ≢ key v.tableau cs r w → (s ≢ r) ⊎ ArePartedAt v u w
