-- Groups of nodes, of which any two at different places are to differ.
use Rattle.std.specs.Prelude.{ℕ, List, ◌≢◌, ◌<◌, length, Any, slice_index}
use Rattle.esc_union.specs.Merges.{SameClass}

-- another place than `i` holds a node of the class of `b`
abbrev pub HoldsElsewhere : (ℕ → ℕ) → List ℕ → ℕ → ℕ → Type 0
HoldsElsewhere number group i b =
    (j : ℕ) × (j < length group) × (i ≢ j) × SameClass number (slice_index group j) b

-- two different places hold nodes of the classes of `a` and `b`
abbrev pub HoldsApart : (ℕ → ℕ) → ℕ → ℕ → List ℕ → Type 0
HoldsApart number a b group =
    (i : ℕ) × (i < length group) × SameClass number (slice_index group i) a
    × HoldsElsewhere number group i b

-- two different places hold nodes of one class
abbrev pub HoldsTwice : (ℕ → ℕ) → List ℕ → Type 0
HoldsTwice number group =
    (i : ℕ) × (i < length group) × HoldsElsewhere number group i (slice_index group i)

-- the classes of two nodes hold members of one group at two different places
abbrev pub AreApart : (ℕ → ℕ) → List (List ℕ) → ℕ → ℕ → Type 0
AreApart number groups a b = Any (HoldsApart number a b) groups

-- one class holds members of one group at two different places
abbrev pub AreBroken : (ℕ → ℕ) → List (List ℕ) → Type 0
AreBroken number groups = Any (HoldsTwice number) groups
