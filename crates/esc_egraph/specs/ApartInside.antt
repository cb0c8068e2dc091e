-- Forbidden pairs and numerals, by how they are found.
use Rattle.std.specs.Prelude.{ℕ, List, ◌≡◌, ◌<◌, length, Any}
use Rattle.esc_union.specs.Merges.{SameClass}
use Rattle.esc_egraph.specs.Graph.{Graph, number_of}
use Rattle.esc_egraph.specs.Congruence.{ClashesIn}

-- an entry has this key, and a node in the class of another
abbrev pub MeetsIn : (ℕ → ℕ) → List (ℕ × ℕ) → ℕ → ℕ → Type 0
MeetsIn number entries node other = Any (λ e. (e.0 ≡ node) × SameClass number e.1 other) entries

-- two different numerals stand in the classes of two nodes
abbrev pub HasNumeralsBetween : Graph → ℕ → ℕ → Type 0
HasNumeralsBetween g a b = (x : ℕ) × (x < length g.nodes) × SameClass (number_of g) a x
    × ClashesIn g x b
