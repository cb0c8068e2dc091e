-- How names get their numbers.
use Rattle.std.specs.Prelude.{◌≡◌, ◌⊎◌, ℕ, List, [], ◌∷◌, ◌++◌, codes}
use Rattle.std.specs.List.{Contains}

-- the names that are always there: what predicates equal where they hold, and the two map
-- operations
abbrev pub first_names : List (List ℕ)
first_names = codes "@true" ∷ codes "select" ∷ codes "store" ∷ []

-- a table that has the name stays, and any other gets the name at its end
abbrev pub IsNumbered : List (List ℕ) → List ℕ → List (List ℕ) → Type 0
IsNumbered old name new =
    (Contains old name × (new ≡ old)) ⊎ ((Contains old name → ⊥) × (new ≡ old ++ name ∷ []))
