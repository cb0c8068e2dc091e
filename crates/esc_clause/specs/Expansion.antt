-- What a formula that holds, or fails, expands to.
use Rattle.std.specs.Prelude.{ℕ, ◌+◌, Bool, true, false, not, List, [], ◌∷◌}
use Rattle.std.specs.Option.{option_map_or}
use Rattle.esc_term.specs.declared.formula.Formula.{Formula, out-Formula}
use Rattle.esc_term.specs.declared.formula.Formula.TheOpen.{Formula-F}
use Rattle.esc_term.specs.declared.formula.Quant.{Quant}
use Rattle.esc_cover.specs.Atoms.{pair_equations}
use Rattle.esc_clause.specs.Occurrences.{formula_at, size_of}
use Rattle.esc_clause.specs.declared.occurrence.Occurrence.{Occurrence}

pub data Expansion : Type 0 where
  -- all of these are to hold
  AllOf : List Occurrence → Expansion
  -- of each list one is to hold
  OneOfEach : List (List Occurrence) → Expansion
  -- it cannot be
  Never : Expansion
  -- it is a literal
  Literal : Expansion

-- the formulas as occurrences with one sign, side by side from a place on
abbrev pub from_place : ℕ → ℕ → Bool → List Formula → List Occurrence
from_place fact place positive [] = []
from_place fact place positive (f ∷ fs) =
    record { fact = fact; place = place; positive = positive }
    ∷ from_place fact (place + size_of f) positive fs

-- the parts of an occurrence with one sign
abbrev pub parts_at : Occurrence → Bool → List Formula → List Occurrence
parts_at at = from_place at.fact (at.place + 1)

-- the first of two parts, and the second, which stands behind the first
abbrev pub left_at : Occurrence → Bool → Occurrence
left_at at positive = record { fact = at.fact; place = at.place + 1; positive = positive }

abbrev pub right_at : Occurrence → Formula → Bool → Occurrence
right_at at left positive =
    record { fact = at.fact; place = at.place + 1 + size_of left; positive = positive }

abbrev pub expanded_form : Occurrence → Formula-F Formula Quant → Bool → Expansion
expanded_form at Formula-F.True true = AllOf []
expanded_form at Formula-F.True false = Never
expanded_form at Formula-F.False true = Never
expanded_form at Formula-F.False false = AllOf []
expanded_form at (Formula-F.And parts) true = AllOf (parts_at at true parts)
expanded_form at (Formula-F.And parts) false = OneOfEach (parts_at at false parts ∷ [])
expanded_form at (Formula-F.Or parts) true = OneOfEach (parts_at at true parts ∷ [])
expanded_form at (Formula-F.Or parts) false = AllOf (parts_at at false parts)
expanded_form at (Formula-F.Not part) positive = AllOf (left_at at (not positive) ∷ [])
expanded_form at (Formula-F.Implies left right) true =
    OneOfEach ((left_at at false ∷ right_at at left true ∷ []) ∷ [])
expanded_form at (Formula-F.Implies left right) false =
    AllOf (left_at at true ∷ right_at at left false ∷ [])
expanded_form at (Formula-F.Iff left right) true =
    OneOfEach ((left_at at false ∷ right_at at left true ∷ [])
    ∷ (left_at at true ∷ right_at at left false ∷ []) ∷ [])
expanded_form at (Formula-F.Iff left right) false =
    OneOfEach ((left_at at true ∷ right_at at left true ∷ [])
    ∷ (left_at at false ∷ right_at at left false ∷ []) ∷ [])
expanded_form at (Formula-F.Distinct ts) true = Literal
expanded_form at (Formula-F.Distinct ts) false =
    OneOfEach (parts_at at true (pair_equations ts) ∷ [])
expanded_form at (Formula-F.LabelPos name part) positive = AllOf (left_at at positive ∷ [])
expanded_form at (Formula-F.LabelNeg name part) positive = AllOf (left_at at positive ∷ [])
expanded_form at (Formula-F.Forall quant) positive = Literal
expanded_form at (Formula-F.Exists quant) positive = Literal
expanded_form at (Formula-F.Eq s t) positive = Literal
expanded_form at (Formula-F.Less s t) positive = Literal

-- what the occurrence with its sign expands to, by one level
abbrev pub expanded : List Formula → Occurrence → Expansion
expanded fs at =
    option_map_or (λ f. expanded_form at (out-Formula f) at.positive) (formula_at fs at) (AllOf [])

abbrev pub clauses_in : Expansion → List (List Occurrence)
clauses_in (OneOfEach clauses) = clauses
clauses_in _ = []

-- the clauses that asserting an occurrence with its sign makes
abbrev pub clauses_of : List Formula → Occurrence → List (List Occurrence)
clauses_of fs at = clauses_in (expanded fs at)
