-- Leaders of classes while nodes are passed.
use Rattle.std.specs.Prelude.{◌≡◌, ℕ, ◌<◌, List, length, slice_index}
use Rattle.esc_union.specs.Merges.{SameClass}
use Rattle.esc_egraph.specs.Graph.{Graph, number_of}
use Rattle.esc_maps.specs.Chosen.{IsShallower}

-- at the number of each class stands one of its nodes, than which none of the first nodes is
-- shallower
pub record AreLed (g : Graph) (depths leaders : List ℕ) (count : ℕ) : Type 0 where
  pub as_many : length leaders ≡ length g.nodes
  pub there : (r : ℕ) → r < length g.nodes → slice_index leaders r < length g.nodes
  pub own : (r : ℕ) → r < length g.nodes → number_of g r ≡ r
      → SameClass (number_of g) (slice_index leaders r) r
  pub least : (r m : ℕ) → r < length g.nodes → number_of g r ≡ r → m < count
      → SameClass (number_of g) m r → IsShallower depths m (slice_index leaders r) → ⊥

-- for each of the first nodes, the leader of its class
pub record StandSoFar (g : Graph) (leaders standing : List ℕ) (count : ℕ) : Type 0 where
  pub as_many : length standing ≡ count
  pub led : (n : ℕ) → n < count
      → slice_index standing n ≡ slice_index leaders (number_of g n)
  pub numbered : (n : ℕ) → n < count → number_of g n < length g.nodes
  pub own : (n : ℕ) → n < count → number_of g (number_of g n) ≡ number_of g n
