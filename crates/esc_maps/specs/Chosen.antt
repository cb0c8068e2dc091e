-- Which node stands for others, where each node has a depth.
use Rattle.std.specs.Prelude.{◌≡◌, ℕ, ◌<◌, ◌⊎◌, List, length, slice_index}
use Rattle.esc_union.specs.Merges.{SameClass}
use Rattle.esc_egraph.specs.Graph.{Graph, number_of}

-- the first node has less depth, or the same and was made before
abbrev pub IsShallower : List ℕ → ℕ → ℕ → Type 0
IsShallower depths a b =
    (slice_index depths a < slice_index depths b)
    ⊎ ((slice_index depths a ≡ slice_index depths b) × (a < b))

-- the node is among these, and no other one of them is shallower
pub record IsShallowest (g : Graph) (depths : List ℕ) (Among : ℕ → Type 0) (n : ℕ) : Type 0 where
  pub there : n < length g.nodes
  pub among : Among n
  pub least : (m : ℕ) → m < length g.nodes → Among m → IsShallower depths m n → ⊥

-- the node stands for its class
abbrev pub StandsForClass : Graph → List ℕ → ℕ → Type 0
StandsForClass g depths n = IsShallowest g depths (λ m. SameClass (number_of g) m n) n

-- for each node, the one that stands for its class
pub record StandFor (g : Graph) (depths : List ℕ) (standing : List ℕ) : Type 0 where
  pub as_many : length standing ≡ length g.nodes
  pub stand : (n : ℕ) → n < length g.nodes → StandsForClass g depths (slice_index standing n)
  pub same : (n : ℕ) → n < length g.nodes
      → SameClass (number_of g) (slice_index standing n) n
