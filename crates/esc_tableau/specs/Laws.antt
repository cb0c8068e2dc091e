-- What holds of the solutions, the restrictions and the sample of a tableau.
use Rattle.std.specs.Prelude.{◌≡◌, ◌≢◌, ℕ, ◌<◌}
use Rattle.esc_frac.specs.Rational.{zero_ℚ}
use Rattle.esc_rows.specs.Rows.{Point}
use Rattle.esc_tableau.specs.Table.{Table, IsTable, IsRestricted, IsSolution, OwnsRow, sample, size}

-- whether a point is a solution depends on its values of the table's unknowns alone
abbrev pub SolutionsAreLocal : Type 0
SolutionsAreLocal = (t : Table) → IsTable t → (v w : Point) → ((u : ℕ) → u < size t → w u ≡ v u)
    → IsSolution t v → IsSolution t w

-- who is restricted is one of the table's unknowns
abbrev pub RestrictedAreThere : Type 0
RestrictedAreThere = (t : Table) → IsTable t → (u : ℕ) → IsRestricted t u → u < size t

-- an unknown whose sample is not 0 owns a row
abbrev pub SampledOwnsRow : Type 0
SampledOwnsRow = (t : Table) → IsTable t → (u : ℕ) → sample t u ≢ zero_ℚ → OwnsRow t u
