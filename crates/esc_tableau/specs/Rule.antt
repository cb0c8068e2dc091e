-- The rule by which an unknown is maximised: which column enters, which row leaves. Of several the
-- one of least unknown is taken, so that the rule cannot go round.
use Rattle.std.specs.Prelude.{ℕ, suc, zero, Bool, true, false, ◌&&◌, ◌==◌, Option, Some, None, length, get_or, if◌then◌else◌, nat_lt}
use Rattle.std.specs.Ordering.{is_lt}
use Rattle.esc_frac.specs.Rational.{ℚ, zero_ℚ, one_ℚ, neg_ℚ, ◌/ℚ◌, cmp_ℚ}
use Rattle.esc_frac.specs.Sign.{sign_of}
use Rattle.esc_frac.specs.declared.frac.Sign.{Sign}
use Rattle.esc_frac.specs.declared.frac.Sign.TheVariants.{Negative, Zero, Positive as Above}
use Rattle.esc_tableau.specs.Table.{Table, nobody, size, column, entry, row_constant, row_of, column_of, sample}
use Rattle.esc_tableau.specs.declared.answers.Peak.TheVariants.{NotPositive, Positive}
use Rattle.esc_tableau.specs.declared.rule.Move.{Move}
use Rattle.esc_tableau.specs.declared.rule.Next.{Next}
use Rattle.esc_tableau.specs.declared.rule.Next.TheVariants.{Stops, Pivots}

abbrev pub is_above : Sign → Bool
is_above Above = true
is_above Zero = false
is_above Negative = false

abbrev pub is_positive : ℚ → Bool
is_positive p = is_above (sign_of p.num)

abbrev pub with_sign : ℚ → Sign → ℚ
with_sign p Negative = neg_ℚ p
with_sign p Zero = p
with_sign p Above = p

abbrev pub absolute : ℚ → ℚ
absolute p = with_sign p (sign_of p.num)

-- how fast u rises with the unknown of column c
abbrev pub slope : Table → ℕ → ℕ → ℚ
slope t u c =
    if nat_lt (row_of t u) (length t.owners) then entry t (row_of t u) c else
    (if column t c == u then one_ℚ else zero_ℚ)

-- Which way the unknown of column c moves for another to rise, by the sign of the slope: up or
-- down. One that is restricted stands at its least value.
abbrev pub way : ℕ → Bool → Sign → Option Move
way c restricted Zero = None
way c restricted Above = Some (record { column = c; up = true })
way c true Negative = None
way c false Negative = Some (record { column = c; up = false })

-- the move of the column that w owns, where it makes u rise
abbrev pub improving : Table → ℕ → ℕ → Option Move
improving t u w =
    let c = column_of t w in
    if nat_lt c (length t.columns) then way c (get_or t.columns c nobody).restricted
    (sign_of (slope t u c).num) else None

abbrev pub or_next : {X : Type 0} → Option X → Option X → Option X
or_next None y = y
or_next (Some x) y = Some x

-- the answer at the least number below n that has one
abbrev pub first : {X : Type 0} → (ℕ → Option X) → ℕ → Option X
first f zero = None
first f (suc n) = or_next (first f n) (f n)

-- the move of the least unknown that improves u
abbrev pub entering : Table → ℕ → Option Move
entering t u = first (improving t u) (size t)

abbrev pub is_against : Bool → Sign → Bool
is_against true Negative = true
is_against true Zero = false
is_against true Above = false
is_against false Negative = false
is_against false Zero = false
is_against false Above = true

-- the row's owner is restricted and falls along the move; the unknown that is maximised never does,
-- since it rises
abbrev pub falls : Table → Move → ℕ → Bool
falls t m r = (get_or t.owners r nobody).restricted
    && is_against m.up (sign_of (entry t r m.column).num)

-- the row that w owns, where it bounds the move
abbrev pub bounding : Table → Move → ℕ → Option ℕ
bounding t m w = if nat_lt (row_of t w) (length t.owners)
    && falls t m (row_of t w) then Some (row_of t w) else None

-- how far the column's unknown can move until the row's owner is 0
abbrev pub ratio : Table → Move → ℕ → ℚ
ratio t m r = row_constant t r /ℚ absolute (entry t r m.column)

-- of two rows the one of less ratio, on ties the first
abbrev pub lesser : Table → Move → Option ℕ → Option ℕ → Option ℕ
lesser t m best None = best
lesser t m None (Some r) = Some r
lesser t m (Some b) (Some r) = if is_lt (cmp_ℚ (ratio t m r) (ratio t m b)) then Some r else Some b

-- of the rows that bound the move and have owners below n, the one of least ratio, on ties that of
-- the least owner
abbrev pub least : Table → Move → ℕ → Option ℕ
least t m zero = None
least t m (suc n) = lesser t m (least t m n) (bounding t m n)

abbrev pub leaving : Table → Move → Option ℕ
leaving t m = least t m (size t)

abbrev pub next_by_row : Table → Move → Option ℕ → Next
next_by_row t m None = Stops (Positive (Some (column t m.column)))
next_by_row t m (Some r) = Pivots r m.column

abbrev pub next_by_move : Table → Option Move → Next
next_by_move t None = Stops NotPositive
next_by_move t (Some m) = next_by_row t m (leaving t m)

-- what maximising u has next: it stops, or a pivot
abbrev pub next : Table → ℕ → Next
next t u = if is_positive (sample t u) then Stops (Positive None) else next_by_move t (entering t u)
