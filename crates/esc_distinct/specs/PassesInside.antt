-- What is asked of a group and some nodes.
use Rattle.std.specs.Prelude.{ℕ, List, ◌≡◌, ◌≢◌, ◌<◌, length, slice_index}
use Rattle.esc_union.specs.Merges.{SameClass}

-- another place than `i` holds the node
abbrev pub StandsElsewhere : List ℕ → ℕ → ℕ → Type 0
StandsElsewhere group i n = (j : ℕ) × (j < length group) × (i ≢ j) × (slice_index group j ≡ n)

-- the place holds a node of the class of `a`
abbrev pub HoldsAt : (ℕ → ℕ) → List ℕ → ℕ → ℕ → Type 0
HoldsAt number group a i = (i < length group) × SameClass number (slice_index group i) a
