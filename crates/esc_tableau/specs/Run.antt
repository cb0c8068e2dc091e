-- A run of the rule, and how a maximising ends.
use Rattle.std.specs.Prelude.{◌≡◌, ◌≢◌, ℕ, suc, zero, ◌<◌, ◌≤◌, false, length, Option, Some, None, Result, Ok, Err}
use Rattle.esc_frac.specs.Fits.{QuotientFits, ComparisonFits}
use Rattle.esc_frac.specs.Rational.{ℚ, zero_ℚ, ◌+ℚ◌, ◌≤ℚ◌, ◌<ℚ◌}
use Rattle.esc_rows.specs.Rows.{Point}
use Rattle.esc_rows.specs.Steps.{PivotFits}
use Rattle.esc_tableau.specs.Table.{Table, IsSolution, IsWithin, OwnsColumn, size, owner, column, column as unknown_at, row_constant, entry, sample, pivoted}
use Rattle.esc_tableau.specs.Rule.{is_positive, absolute, entering, bounding, ratio, least, next}
use Rattle.esc_tableau.specs.declared.answers.Peak.{Peak}
use Rattle.esc_tableau.specs.declared.answers.Peak.TheVariants.{NotPositive, Positive}
use Rattle.esc_tableau.specs.declared.answers.Jam.{Jam}
use Rattle.esc_tableau.specs.declared.answers.Jam.TheVariants.{Spill, Pivots as Spent}
use Rattle.esc_tableau.specs.declared.answers.Step.{Step}
use Rattle.esc_tableau.specs.declared.answers.Step.TheVariants.{Row, Ratio, Pivot}
use Rattle.esc_tableau.specs.declared.rule.Move.{Move}
use Rattle.esc_tableau.specs.declared.rule.Next.{Next}
use Rattle.esc_tableau.specs.declared.rule.Next.TheVariants.{Stops, Pivots}

abbrev pub after_next : Table → Next → Table
after_next t (Stops peak) = t
after_next t (Pivots r c) = pivoted t r c

-- the rows after n pivots by the rule, or fewer where it stops before
abbrev pub pivot_run : Table → ℕ → ℕ → Table
pivot_run t u zero = t
pivot_run t u (suc n) = let s = pivot_run t u n in after_next s (next s u)

-- the rule has one more pivot
abbrev pub GoesOn : Table → ℕ → Type 0
GoesOn t u = (r : ℕ) × (c : ℕ) × (next t u ≡ Pivots r c)

-- ---- which steps fit

-- the ratio of row r, whose owner is w, is made, and ordered with the least one of lesser owners
pub record RatioFits (t : Table) (m : Move) (w r : ℕ) : Type 0 where
  pub division : QuotientFits (row_constant t r) (absolute (entry t r m.column))
  pub order : (b : ℕ) → least t m w ≡ Some b → ComparisonFits (ratio t m r) (ratio t m b)

-- those of the owners below n
abbrev pub RatiosFit : Table → Move → ℕ → Type 0
RatiosFit t m n = (w r : ℕ) → w < n → bounding t m w ≡ Some r → RatioFits t m w r

-- all ratios that the rule makes on these rows
abbrev pub RuleFits : Table → ℕ → Type 0
RuleFits t u = is_positive (sample t u) ≡ false → (m : Move) → entering t u ≡ Some m
    → RatiosFit t m (size t)

-- and the pivot that it then makes
abbrev pub NextFits : Table → ℕ → Type 0
NextFits t u = (r c : ℕ) → next t u ≡ Pivots r c → PivotFits t.entries t.constants r c

-- the ratio of this row is the next step, and does not fit
pub record RatioJams (t : Table) (u w x : ℕ) : Type 0 where
  pub low : is_positive (sample t u) ≡ false
  pub move : Move
  pub enters : entering t u ≡ Some move
  pub entrant : x ≡ column t move.column
  pub row : ℕ
  pub bounds : bounding t move w ≡ Some row
  pub before : RatiosFit t move w
  pub jams : ¬ RatioFits t move w row

-- this pivot is the next step, and does not fit
pub record PivotJams (t : Table) (u w x : ℕ) : Type 0 where
  pub ratios : RuleFits t u
  pub row : ℕ
  pub column : ℕ
  pub chosen : next t u ≡ Pivots row column
  pub leaver : w ≡ owner t row
  pub entrant : x ≡ unknown_at t column
  pub jams : ¬ PivotFits t.entries t.constants row column

-- this step is the next one, and does not fit
abbrev pub StepJams : Table → ℕ → Step → Type 0
StepJams t u Row = ⊥
StepJams t u (Ratio w x) = RatioJams t u w x
StepJams t u (Pivot w x) = PivotJams t u w x

-- where only the ratios are made
abbrev pub RuleJams : Table → ℕ → Step → Type 0
RuleJams t u Row = ⊥
RuleJams t u (Ratio w x) = RatioJams t u w x
RuleJams t u (Pivot w x) = ⊥

-- ---- how a maximising of u ends

-- the run went on for n pivots, whose steps all fit
pub record HasPivoted (old new : Table) (u n : ℕ) : Type 0 where
  pub is : new ≡ pivot_run old u n
  pub goes_on : (k : ℕ) → k < n → GoesOn (pivot_run old u k) u
  pub ratios : (k : ℕ) → k < n → RuleFits (pivot_run old u k) u
  pub pivots : (k : ℕ) → k < n → NextFits (pivot_run old u k) u

-- it stops after n pivots with this peak
pub record EndsIn (old new : Table) (u limit : ℕ) (peak : Peak) : Type 0 where
  pub n : ℕ
  pub allowed : n ≤ limit
  pub reached : HasPivoted old new u n
  pub ratios : RuleFits new u
  pub stops : next new u ≡ Stops peak

-- it goes on after as many pivots as are allowed
pub record EndsSpent (old new : Table) (u limit : ℕ) : Type 0 where
  pub reached : HasPivoted old new u limit
  pub ratios : RuleFits new u
  pub goes_on : GoesOn new u

-- a ratio does not fit, which is made also where the allowed pivots are spent
pub record EndsAtRatio (old new : Table) (u limit w x : ℕ) : Type 0 where
  pub n : ℕ
  pub allowed : n ≤ limit
  pub reached : HasPivoted old new u n
  pub jams : RatioJams new u w x

-- an allowed pivot does not fit
pub record EndsAtPivot (old new : Table) (u limit w x : ℕ) : Type 0 where
  pub n : ℕ
  pub allowed : n < limit
  pub reached : HasPivoted old new u n
  pub jams : PivotJams new u w x

abbrev pub Ends : Table → Table → ℕ → ℕ → Result Peak Jam → Type 0
Ends old new u limit (Ok peak) = EndsIn old new u limit peak
Ends old new u limit (Err Spent) = EndsSpent old new u limit
Ends old new u limit (Err (Spill Row)) = ⊥
Ends old new u limit (Err (Spill (Ratio w x))) = EndsAtRatio old new u limit w x
Ends old new u limit (Err (Spill (Pivot w x))) = EndsAtPivot old new u limit w x

-- where no pivot is allowed
abbrev pub EndsNow : Table → ℕ → Result Peak Jam → Type 0
EndsNow t u (Ok peak) = RuleFits t u × (next t u ≡ Stops peak)
EndsNow t u (Err Spent) = RuleFits t u × GoesOn t u
EndsNow t u (Err (Spill step)) = RuleJams t u step

-- one pivot of the run
pub record Advanced (old new : Table) (u : ℕ) : Type 0 where
  pub is : new ≡ after_next old (next old u)
  pub goes_on : GoesOn old u
  pub ratios : RuleFits old u
  pub pivots : NextFits old u

-- or its end
abbrev pub Advances : Table → Table → ℕ → Result (Option Peak) Step → Type 0
Advances old new u (Ok None) = Advanced old new u
Advances old new u (Ok (Some peak)) = (new ≡ old) × RuleFits old u × (next old u ≡ Stops peak)
Advances old new u (Err step) = (new ≡ old) × StepJams old u step

-- ---- what a peak says

-- u grows without bound along the column of ray: there it stands by any rise above its sample,
-- while the other columns' unknowns stay
pub record GrowsAlong (t : Table) (u ray : ℕ) : Type 0 where
  pub owns : OwnsColumn t ray
  pub rises : (rise : ℚ) → zero_ℚ ≤ℚ rise → (v : Point) × IsSolution t v × IsWithin t v
      × (v u ≡ sample t u +ℚ rise) × ((c : ℕ) → c < length t.columns → column t c ≢ ray
      → v (column t c) ≡ sample t (column t c))

-- the sample is the greatest value, and not positive
pub record IsGreatest (t : Table) (u : ℕ) : Type 0 where
  pub greatest : (v : Point) → IsSolution t v → IsWithin t v → v u ≤ℚ sample t u
  pub low : sample t u ≤ℚ zero_ℚ

abbrev pub PeakHolds : Table → ℕ → Peak → Type 0
PeakHolds t u NotPositive = IsGreatest t u
PeakHolds t u (Positive None) = zero_ℚ <ℚ sample t u
PeakHolds t u (Positive (Some ray)) = GrowsAlong t u ray
