-- What a stop shows: rows that say no more than the restrictions do, and a step on them that does
-- not fit, or a maximising that does not end.
use Rattle.std.specs.Prelude.{◌≡◌, ◌⊎◌, ℕ, ◌<◌, if◌then◌else◌, ◌↔◌, List, [], ◌∷◌, ◌++◌, Option, Some, None}
use Rattle.std.specs.List.{AllZip, Contains}
use Rattle.esc_term.specs.declared.term.Term.{Term}
use Rattle.esc_frac.specs.Rational.{ℚ, zero_ℚ, one_ℚ, neg_ℚ, ◌<ℚ◌}
use Rattle.esc_linear.specs.Forms.{form}
use Rattle.esc_linear.specs.Steps.{AllFit, steps}
use Rattle.esc_linear.specs.declared.form.Part.{Part as Addend}
use Rattle.esc_rows.specs.Steps.{PivotFits}
use Rattle.esc_tableau.specs.Changes.{PartsFit, start_sum}
use Rattle.esc_tableau.specs.Listed.{tabled}
use Rattle.esc_tableau.specs.Rule.{next}
use Rattle.esc_tableau.specs.Run.{EndsSpent, RuleFits, StepJams, pivot_run}
use Rattle.esc_tableau.specs.Table.{Table, IsRestricted, IsTable, IsWithin, column_of, row_of, sample, size}
use Rattle.esc_tableau.specs.declared.answers.Peak.TheVariants.{Positive}
use Rattle.esc_tableau.specs.declared.answers.Step.{Step}
use Rattle.esc_tableau.specs.declared.answers.Step.TheVariants.{Row, Ratio, Pivot}
use Rattle.esc_tableau.specs.declared.changing.Part.{Part}
use Rattle.esc_tableau.specs.declared.listed.Rows.{Rows}
use Rattle.esc_tableau.specs.declared.rule.Next.TheVariants.{Stops}
use Rattle.esc_cover.specs.Assignment.{Gap}
use Rattle.esc_simplex.specs.Senses.{AreRowsOf, Sense, StandsFor, gap_of, term}
use Rattle.esc_simplex.specs.SimplexUndo.{HaveSameRows}
use Rattle.esc_simplex.specs.View.{senses_in}
use Rattle.esc_simplex.specs.declared.simplex.Simplex.{Simplex}
use Rattle.esc_simplex.specs.declared.stop.Stop.{Stop}
use Rattle.esc_simplex.specs.declared.stop.Stop.TheVariants as stop

-- ---- making a row

-- one part of a row: the unknown of an opaque term, with its factor
pub record IsAddendOf (senses : List Sense) (p : Part) (a : Addend) : Type 0 where
  pub unknown : StandsFor senses p.unknown (term a.term)
  pub factor : p.factor ≡ a.factor

-- the parts of the row of a gap: its upper term once, and its lower one taken away
pub record AreGapParts (senses : List Sense) (g : Gap) (ps : List Part) : Type 0 where
  pub upper : ℕ
  pub lower : ℕ
  pub is_upper : StandsFor senses upper (term g.upper)
  pub is_lower : StandsFor senses lower (term g.lower)
  pub parts : ps ≡ record { unknown = upper; factor = one_ℚ }
      ∷ record { unknown = lower; factor = neg_ℚ one_ℚ } ∷ []

-- these parts and this constant make the row of an unknown that stands for this
abbrev pub AreRowParts : List Sense → Sense → List Part → ℚ → Type 0
AreRowParts senses (term t) ps k = AllZip (IsAddendOf senses) ps (form t).parts
    × (k ≡ (form t).constant)
AreRowParts senses (gap_of g) ps k = AreGapParts senses g ps
    × (k ≡ (if g.strict then neg_ℚ one_ℚ else zero_ℚ))

-- a step of making the row does not fit
pub record RowJams (senses : List Sense) (t : Table) (s : Sense) : Type 0 where
  pub parts : List Part
  pub constant : ℚ
  pub made_of : AreRowParts senses s parts constant
  pub jams : ¬ PartsFit t (start_sum t constant) parts

-- ---- maximising

-- u is negative and grows without bound along a column, and the pivot that brings it there does not
-- fit
pub record RayJams (t : Table) (u x : ℕ) : Type 0 where
  pub negative : sample t u <ℚ zero_ℚ
  pub ratios : RuleFits t u
  pub grows : next t u ≡ Stops (Positive (Some x))
  pub jams : ¬ PivotFits t.entries t.constants (row_of t u) (column_of t x)

abbrev pub MaximisingJams : Table → ℕ → Step → Type 0
MaximisingJams t u Row = ⊥
MaximisingJams t u (Ratio w x) = StepJams t u (Ratio w x)
MaximisingJams t u (Pivot w x) = StepJams t u (Pivot w x) ⊎ ((w ≡ u) × RayJams t u x)

-- the next step does not fit: of the row of something that may be made, where no unknown is
-- maximised, or of maximising one
abbrev pub KeptStepJams : (Sense → Type 0) → List Sense → Table → Option ℕ → Step → Type 0
KeptStepJams May senses t None Row = (s : Sense) × May s × RowJams senses t s
KeptStepJams May senses t None step = ⊥
KeptStepJams May senses t (Some u) step = (u < size t) × MaximisingJams t u step

-- the maximising goes on after as many pivots as are allowed, on the rows at its start
abbrev pub KeptRunIsSpent : Table → Option ℕ → ℕ → Type 0
KeptRunIsSpent t None limit = ⊥
KeptRunIsSpent t (Some u) limit = (u < size t) × EndsSpent t (pivot_run t u limit) u limit

-- ---- stops

-- rows of these unknowns, within whose restrictions their sample is
pub record AreKeptRows (senses : List Sense) (t : Table) : Type 0 where
  pub table : IsTable t
  pub rows : AreRowsOf senses t
  pub within : IsWithin t (sample t)

-- the unknowns in use have the same values and the same restrictions there, and no other unknown is
-- restricted
pub record AreRowsAt (v : Simplex) (t : Table) : Type 0 where
  pub rows : HaveSameRows v.unknowns v.tableau t
  pub restricted : (u : ℕ) → IsRestricted t u ↔ Contains v.restricted u

-- the unknowns are those in the rows, or also one gap for which a row was made and dropped
abbrev pub AreSensesAt : Simplex → (Gap → Type 0) → List Sense → Type 0
AreSensesAt v Gaps senses = (senses ≡ senses_in v)
    ⊎ ((g : Gap) × Gaps g × (senses ≡ senses_in v ++ gap_of g ∷ []))

-- the kept rows stand for the view, and this is so of them
pub record KeepsRows (v : Simplex) (Gaps : Gap → Type 0) (rows : Rows) (So : List Sense → Table
    → Type 0) : Type 0 where
  pub senses : List Sense
  pub senses_are : AreSensesAt v Gaps senses
  pub kept : AreKeptRows senses (tabled rows)
  pub at_view : AreRowsAt v (tabled rows)
  pub so : So senses (tabled rows)

-- a row may be for a term of the call, for a gap that it makes, or for what an unknown stands for
-- already
abbrev pub MayBeMade : List Sense → (Term → Type 0) → (Gap → Type 0) → Sense → Type 0
MayBeMade senses Terms Gaps (term t) = Terms t ⊎ Contains senses (term t)
MayBeMade senses Terms Gaps (gap_of g) = Gaps g ⊎ Contains senses (gap_of g)

-- the stop is one that a call with these terms and gaps may answer and leave this view
abbrev pub IsBarred : Simplex → (Term → Type 0) → (Gap → Type 0) → Stop → Type 0
IsBarred v Terms Gaps (stop.Spill j) = KeepsRows v Gaps j.rows
    (λ senses t. KeptStepJams (MayBeMade senses Terms Gaps) senses t j.unknown j.step)
IsBarred v Terms Gaps (stop.Form t) = Terms t × (¬ AllFit (steps t))
IsBarred v Terms Gaps (stop.Pivots j) = (j.limit ≡ v.limit)
    × KeepsRows v Gaps j.rows (λ senses t. KeptRunIsSpent t j.unknown j.limit)
IsBarred v Terms Gaps stop.Memory = Unit {0}
