-- Rows in solved form, their solutions, and what a pivot makes of them.
use Rattle.std.specs.Prelude.{◌≡◌, ℕ, List, [], ◌∷◌, map, set, get_or}
use Rattle.esc_frac.specs.Rational.{ℚ, zero_ℚ, ◌+ℚ◌, neg_ℚ, ◌*ℚ◌, inverse_ℚ, ◌/ℚ◌}

-- a value for each unknown, which is its number
abbrev pub Point : Type 0
Point = ℕ → ℚ

-- the sum of the entries times the values of the columns' unknowns
abbrev pub combination : Point → List ℚ → List ℕ → ℚ
combination v [] cs = zero_ℚ
combination v (e ∷ es) [] = zero_ℚ
combination v (e ∷ es) (c ∷ cs) = e *ℚ v c +ℚ combination v es cs

-- a row holds at a point: its owner is that sum and the constant
abbrev pub RowHolds : Point → List ℕ → ℕ → List ℚ → ℚ → Type 0
RowHolds v cs owner es k = v owner ≡ combination v es cs +ℚ k

-- ---- a pivot at a row and at column c: the row is solved for the column's unknown, which the
-- other rows then lose

-- the row, solved for the unknown of column c
abbrev pub solved : List ℚ → ℕ → List ℚ
solved es c = let p = get_or es c zero_ℚ in set (map (λ a. neg_ℚ (a /ℚ p)) es) c (inverse_ℚ p)

-- its constant
abbrev pub solved_constant : List ℚ → ℕ → ℚ → ℚ
solved_constant es c k = neg_ℚ (k /ℚ get_or es c zero_ℚ)

-- each entry with e times the other row's one, where the two rows have one length
abbrev pub plus_multiple : ℚ → List ℚ → List ℚ → List ℚ
plus_multiple e [] ns = []
plus_multiple e (a ∷ bs) [] = []
plus_multiple e (a ∷ bs) (n ∷ ns) = (a +ℚ e *ℚ n) ∷ plus_multiple e bs ns

-- another row, with the solved row in place of the unknown of column c
abbrev pub eliminated : List ℚ → ℕ → List ℚ → List ℚ
eliminated es c ns = plus_multiple (get_or es c zero_ℚ) (set es c zero_ℚ) ns

abbrev pub eliminated_constants : List (List ℚ) → List ℚ → ℕ → ℚ → List ℚ
eliminated_constants [] ks c n = []
eliminated_constants (es ∷ ess) [] c n = []
eliminated_constants (es ∷ ess) (k ∷ ks) c n = (k +ℚ get_or es c zero_ℚ *ℚ n)
    ∷ eliminated_constants ess ks c n
