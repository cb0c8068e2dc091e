-- When a stop shows why the arithmetic of a branch goes no further: what is kept of it is made of
-- the formulas of the branch, its rows say what the literals and the told pairs say, and on them the
-- step or the run is as the stop says.
use Rattle.std.specs.Prelude.{◌≡◌, ◌↔◌, ℕ, List, take}
use Rattle.std.specs.List.{All, Contains, flat_map}
use Rattle.esc_term.specs.declared.term.Term.{Term}
use Rattle.esc_term.specs.declared.formula.Formula.{Formula}
use Rattle.esc_term.specs.declared.formula.Item.{Item}
use Rattle.esc_linear.specs.Steps.{AllFit, steps}
use Rattle.esc_rows.specs.Rows.{Point}
use Rattle.esc_tableau.specs.Listed.{tabled}
use Rattle.esc_tableau.specs.Table.{Table, IsWithin}
use Rattle.esc_tableau.specs.declared.listed.Rows.{Rows}
use Rattle.esc_cover.specs.Arithmetic.{play_of}
use Rattle.esc_cover.specs.Assignment.{Assignment, NoneNegative, asked}
use Rattle.esc_cover.specs.Counterexample.{AreLiteralsOf}
use Rattle.esc_simplex.specs.Barred.{AreKeptRows, KeptRunIsSpent, KeptStepJams}
use Rattle.esc_simplex.specs.Senses.{IsPointOf, Sense, StandsFor, gap_of, term}
use Rattle.esc_simplex.specs.declared.stop.Stop.{Stop}
use Rattle.esc_simplex.specs.declared.stop.Stop.TheVariants as stop
use Rattle.esc_sharing.specs.Admitted.{both_gaps}
use Rattle.esc_sharing.specs.Numbers.{IsGapOf}
use Rattle.esc_outcome.specs.declared.stuck.Stuck.{Stuck}

-- ---- what the formulas give to arithmetic

-- the arithmetic terms in play
abbrev pub numbers_of : List Formula → List Term
numbers_of formulas = (play_of formulas).numbers

abbrev pub IsNumberOf : List Formula → Term → Type 0
IsNumberOf formulas t = Contains (numbers_of formulas) t

-- such a term, or the gap of two
abbrev pub IsSenseOf : List Formula → Sense → Type 0
IsSenseOf formulas (term t) = IsNumberOf formulas t
IsSenseOf formulas (gap_of g) = IsGapOf (numbers_of formulas) g

-- ---- rows

-- a point is within the restrictions exactly where it makes none of the gaps negative that the
-- literals ask for, from the front so many, and that the pairs do, so many
abbrev pub RestrictsAs : List Sense → Table → List Item → List (Term × Term) → ℕ → ℕ → Type 0
RestrictsAs senses t literals told asking telling =
    (x : Assignment) (p : Point) → IsPointOf senses x p
    → IsWithin t p ↔ (NoneNegative x (take asking (flat_map asked literals))
    × NoneNegative x (take telling (flat_map both_gaps told)))

-- the rows are those of the formulas, the literals and the pairs, and this is so of them
pub record KeepsRowsOf (formulas : List Formula) (stuck : Stuck) (rows : Rows)
    (So : List Sense → Table → Type 0) : Type 0 where
  pub senses : List Sense
  pub meant : All (λ meaning. StandsFor senses meaning.unknown (term meaning.term)) stuck.unknowns
  pub made_of : All (IsSenseOf formulas) senses
  pub kept : AreKeptRows senses (tabled rows)
  -- the last literal, and the last pair, may not be asked for, or by one gap of two
  pub asking : ℕ
  pub telling : ℕ
  pub restricts : RestrictsAs senses (tabled rows) stuck.literals stuck.told asking telling
  pub so : So senses (tabled rows)

-- ---- the stop

abbrev pub JamsAs : List Formula → ℕ → Stuck → Stop → Type 0
JamsAs formulas limit stuck (stop.Form t) = IsNumberOf formulas t × (¬ AllFit (steps t))
JamsAs formulas limit stuck (stop.Spill j) =
    KeepsRowsOf formulas stuck j.rows
    (λ senses t. KeptStepJams (IsSenseOf formulas) senses t j.unknown j.step)
JamsAs formulas limit stuck (stop.Pivots j) =
    (j.limit ≡ limit)
    × KeepsRowsOf formulas stuck j.rows (λ senses t. KeptRunIsSpent t j.unknown limit)
JamsAs formulas limit stuck stop.Memory = ⊥

-- by the formulas of the branch, where a maximising may take so many pivots
pub record IsJam (formulas : List Formula) (limit : ℕ) (stuck : Stuck) : Type 0 where
  pub literals : AreLiteralsOf formulas stuck.literals
  pub told : All (λ pair. IsNumberOf formulas pair.0 × IsNumberOf formulas pair.1) stuck.told
  pub terms : All (λ meaning. IsNumberOf formulas meaning.term) stuck.unknowns
  pub jams : JamsAs formulas limit stuck stuck.jam
