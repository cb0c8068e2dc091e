-- How the steps of a graph are taken back.
use Rattle.std.specs.Prelude.{ℕ, List, [], ◌∷◌, ◌++◌, ◌≡◌, ◌⊎◌, Bool, false, take}
use Rattle.esc_egraph.specs.declared.step.Step.{Step}

-- the last step is taken back, when there were so many nodes and merges; or all is forgotten
abbrev pub IsTakenBack : ℕ → ℕ → List (ℕ × ℕ) → List Step → List (ℕ × ℕ) → List Step → Bool → Type 0
IsTakenBack nodes merges table steps table' steps' whole =
    ((step : Step) × (steps ≡ steps' ++ (step ∷ [])) × (step.nodes ≡ nodes) × (step.merges ≡ merges)
    × (table' ≡ take step.table table) × (whole ≡ step.whole))
    ⊎ ((table' ≡ []) × (steps' ≡ []) × (whole ≡ false))
