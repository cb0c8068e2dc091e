-- How the classes are found.
use Rattle.std.specs.Prelude.{ℕ, [], ◌∷◌, ◌++◌, ◌≡◌, ◌⊎◌}
use Rattle.esc_egraph.specs.Graph.{Graph}

-- the classes of two nodes are one, by one merge more, either way round
abbrev pub IsUnited : Graph → Graph → ℕ → ℕ → Type 0
IsUnited old new a b =
    (new ≡ record old { merges = old.merges ++ ((a, b) ∷ []) })
    ⊎ (new ≡ record old { merges = old.merges ++ ((b, a) ∷ []) })
