-- Along which columns one can move from the sample, and whom that parts.
use Rattle.std.specs.Prelude.{◌≡◌, ◌≢◌, ◌⊎◌, ◌↔◌, ℕ, ◌<◌, Bool, true, false, List, length, get_or}
use Rattle.std.specs.List.{Contains}
use Rattle.esc_frac.specs.Rational.{zero_ℚ}
use Rattle.esc_rows.specs.Rows.{Point}
use Rattle.esc_tableau.specs.Rule.{falls, slope}
use Rattle.esc_tableau.specs.Table.{Table, IsSolution, IsTable, IsWithin, nobody, row_constant, sample}
use Rattle.esc_tableau.specs.declared.rule.Move.{Move}

abbrev pub move : ℕ → Bool → Move
move c up = record { column = c; up = up }

-- the row's owner is restricted, stands at 0 in the sample, and falls along the move
abbrev pub Blocks : Table → Move → ℕ → Type 0
Blocks t m r = (falls t m r ≡ true) × (row_constant t r ≡ zero_ℚ)

abbrev pub IsFree : Table → Move → Type 0
IsFree t m = (r : ℕ) → r < length t.owners → Blocks t m r → ⊥

-- within the restrictions the column's unknown can be a little above 0, or a little below
abbrev pub CanMove : Table → ℕ → Type 0
CanMove t c = IsFree t (move c true)
    ⊎ (((get_or t.columns c nobody).restricted ≡ false) × IsFree t (move c false))

-- the columns that can move
abbrev pub AreMoving : Table → List ℕ → Type 0
AreMoving t cs = (c : ℕ) → Contains cs c ↔ ((c < length t.columns) × CanMove t c)

-- somewhere within the restrictions they differ
abbrev pub ArePartedIn : Table → ℕ → ℕ → Type 0
ArePartedIn t u w = (p : Point) × IsSolution t p × IsWithin t p × (p u ≢ p w)

-- two with one sample that rise differently with a column that can move differ somewhere
abbrev pub MovesPart : Type 0
MovesPart = (t : Table) → IsTable t → IsWithin t (sample t) → (c : ℕ) → c < length t.columns
    → CanMove t c → (u w : ℕ) → sample t u ≡ sample t w → slope t u c ≢ slope t w c
    → ArePartedIn t u w
