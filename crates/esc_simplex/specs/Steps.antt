-- What the steps on a tableau answer that the calls are made of.
use Rattle.std.specs.Prelude.{◌≡◌, ◌⊎◌, ℕ, Bool, true, false, if◌then◌else◌, List, [], ◌∷◌, Option, Some, None}
use Rattle.esc_frac.specs.Rational.{ℚ, zero_ℚ, one_ℚ, neg_ℚ, ◌≤ℚ◌, ◌<ℚ◌}
use Rattle.esc_rows.specs.Rows.{Point}
use Rattle.esc_tableau.specs.Changes.{AddsRow, PartsFit, start_sum}
use Rattle.esc_tableau.specs.Listed.{tabled}
use Rattle.esc_tableau.specs.Run.{EndsSpent, IsGreatest, RuleFits, pivot_run}
use Rattle.esc_tableau.specs.Rule.{next}
use Rattle.esc_tableau.specs.Table.{Table, IsSolution, IsTable, IsWithin, SameSystem, sample, size}
use Rattle.esc_tableau.specs.declared.answers.Peak.{Peak}
use Rattle.esc_tableau.specs.declared.answers.Step.{Step}
use Rattle.esc_tableau.specs.declared.answers.Step.TheVariants.{Row}
use Rattle.esc_tableau.specs.declared.changing.Part.{Part}
use Rattle.esc_tableau.specs.declared.rule.Next.TheVariants.{Stops}
use Rattle.esc_simplex.specs.Barred.{MaximisingJams}
use Rattle.esc_simplex.specs.declared.stop.Jammed.{Jammed}
use Rattle.esc_simplex.specs.declared.stop.Stop.{Stop}
use Rattle.esc_simplex.specs.declared.stop.Stop.TheVariants as stop

-- ---- the row of a gap

abbrev pub gap_parts : ℕ → ℕ → List Part
gap_parts upper lower =
    record { unknown = upper; factor = one_ℚ } ∷ record { unknown = lower; factor = neg_ℚ one_ℚ }
    ∷ []

abbrev pub gap_constant : Bool → ℚ
gap_constant strict = if strict then neg_ℚ one_ℚ else zero_ℚ

-- ---- what a stop keeps

-- these rows, and the unknown that is maximised on them
pub record KeepsTable (t : Table) (u : Option ℕ) (j : Jammed) : Type 0 where
  pub rows : tabled j.rows ≡ t
  pub unknown : j.unknown ≡ u

-- at this step
abbrev pub SpillStops : Table → Option ℕ → Step → Stop → Type 0
SpillStops t u step (stop.Spill j) = KeepsTable t u j × (j.step ≡ step)
SpillStops t u step (stop.Form s) = ⊥
SpillStops t u step (stop.Pivots j) = ⊥
SpillStops t u step stop.Memory = Unit {0}

-- where the row of these parts is made on the table
abbrev pub RowStops : Table → List Part → ℚ → Stop → Type 0
RowStops t ps k (stop.Spill j) = KeepsTable t None j × (j.step ≡ Row)
    × (¬ PartsFit t (start_sum t k) ps)
RowStops t ps k (stop.Form s) = ⊥
RowStops t ps k (stop.Pivots j) = ⊥
RowStops t ps k stop.Memory = Unit {0}

-- where u is maximised from one table on, and stands at another one
abbrev pub MaximisingStops : Table → Table → ℕ → ℕ → Stop → Type 0
MaximisingStops start now u limit (stop.Spill j) = KeepsTable now (Some u) j
    × MaximisingJams now u j.step
MaximisingStops start now u limit (stop.Form s) = ⊥
MaximisingStops start now u limit (stop.Pivots j) =
    KeepsTable start (Some u) j × (j.limit ≡ limit)
    × EndsSpent start (pivot_run start u limit) u limit
MaximisingStops start now u limit stop.Memory = Unit {0}

-- ---- what stands after such a step

-- the same solutions and restrictions, with the sample within them
pub record KeepsSystem (old new : Table) : Type 0 where
  pub table : IsTable new
  pub same : SameSystem old new
  pub within : IsWithin new (sample new)

-- the rule stops for u with this peak
pub record IsPeak (t : Table) (u : ℕ) (peak : Peak) : Type 0 where
  pub ratios : RuleFits t u
  pub stops : next t u ≡ Stops peak

-- u was brought to 0 or above, or is below it wherever the restrictions hold
abbrev pub LiftEnds : Table → ℕ → Bool → Type 0
LiftEnds t u true = zero_ℚ ≤ℚ sample t u
LiftEnds t u false = (sample t u <ℚ zero_ℚ) × IsGreatest t u

-- ---- whether one unknown can exceed another

-- the row of the difference was added
pub record HasGapRow (old new : Table) (upper lower : ℕ) : Type 0 where
  pub table : IsTable new
  pub adds : AddsRow old new (gap_parts upper lower) zero_ℚ
  pub within : IsWithin new (sample new)

-- somewhere within the restrictions it does, or nowhere
abbrev pub ExceedEnds : Table → ℕ → ℕ → Bool → Type 0
ExceedEnds t upper lower true = (v : Point) × IsSolution t v × IsWithin t v × (v lower <ℚ v upper)
ExceedEnds t upper lower false = (v : Point) → IsSolution t v → IsWithin t v → v upper ≤ℚ v lower

-- the row could not be made, or was made and its unknown could not be maximised
pub record GapStops (old : Table) (upper lower limit : ℕ) (s : Stop) : Type 0 where
  pub start : Table
  pub now : Table
  pub made : HasGapRow old start upper lower
  pub kept : KeepsSystem start now
  pub unknown : ℕ
  pub is_new : unknown ≡ size old
  pub stops : MaximisingStops start now unknown limit s

abbrev pub ExceedStops : Table → ℕ → ℕ → ℕ → Stop → Type 0
ExceedStops old upper lower limit s = RowStops old (gap_parts upper lower) zero_ℚ s
    ⊎ GapStops old upper lower limit s
