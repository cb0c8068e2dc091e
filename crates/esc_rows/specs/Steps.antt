-- Which steps of a pivot must fit.
use Rattle.std.specs.Prelude.{◌≢◌, ℕ, ◌<◌, pos, List, [], length, set, get_or}
use Rattle.esc_frac.specs.Rational.{ℚ, zero_ℚ, ◌*ℚ◌}
use Rattle.esc_frac.specs.Fits.{ProductFits, QuotientFits, SumFits}
use Rattle.esc_rows.specs.Rows.{solved, solved_constant}

-- one entry and the multiple that is added to it
pub record StepFits (factor entry added : ℚ) : Type 0 where
  pub product : ProductFits factor added
  pub sum : SumFits entry (factor *ℚ added)

-- a row and the multiple of another that is added to it
abbrev pub MultipleFits : ℚ → List ℚ → List ℚ → Type 0
MultipleFits factor row other = (j : ℕ) → j < length row
    → StepFits factor (get_or row j zero_ℚ) (get_or other j zero_ℚ)

-- solving a row for the unknown of its column c: each other entry and the constant is divided by
-- the entry there
pub record SolvingFits (row : List ℚ) (k : ℚ) (c : ℕ) : Type 0 where
  pub entries : (j : ℕ) → j < length row → j ≢ c → QuotientFits (get_or row j zero_ℚ)
      (get_or row c zero_ℚ)
  pub constant : QuotientFits k (get_or row c zero_ℚ)

-- taking the unknown of column c out of another row and its constant, by the solved row and its
-- constant
pub record EliminationFits (row : List ℚ) (k : ℚ) (c : ℕ) (other : List ℚ) (n : ℚ) : Type 0 where
  pub entries : MultipleFits (get_or row c zero_ℚ) (set row c zero_ℚ) other
  pub constant : StepFits (get_or row c zero_ℚ) k n

-- taking it out of each row but row r that has it
abbrev pub EliminationsFit : List (List ℚ) → List ℚ → ℕ → ℕ → List ℚ → ℚ → Type 0
EliminationsFit rows constants r c other n =
    (i : ℕ) → i < length rows → i ≢ r → (get_or (get_or rows i []) c zero_ℚ).num ≢ pos 0
    → EliminationFits (get_or rows i []) (get_or constants i zero_ℚ) c other n

-- a pivot at row r and column c
pub record PivotFits (rows : List (List ℚ)) (constants : List ℚ) (r c : ℕ) : Type 0 where
  pub solving : SolvingFits (get_or rows r []) (get_or constants r zero_ℚ) c
  pub others : EliminationsFit rows constants r c (solved (get_or rows r []) c)
      (solved_constant (get_or rows r []) c (get_or constants r zero_ℚ))
