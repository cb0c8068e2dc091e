-- How the places are found at which maps are read.
use Rattle.std.specs.Prelude.{◌≡◌, ℕ, ◌<◌, ◌≤◌, ◌↔◌, ◌⊎◌, List, [], ◌∷◌, length}
use Rattle.std.specs.Prelude.{slice_index}
use Rattle.esc_index.specs.Places.{entry_at}
use Rattle.std.specs.List.{Contains}
use Rattle.esc_nodes.specs.Nodes.{shape_at}
use Rattle.esc_egraph.specs.Graph.{Graph, number_of}
use Rattle.esc_match.specs.Order.{IsBefore}
use Rattle.esc_maps.specs.Chosen.{StandsForClass}
use Rattle.esc_maps.specs.MapMatches.{place_of_match}
use Rattle.esc_maps.specs.Maps.{IsReadAt, read_of}
use Rattle.esc_maps.specs.declared.map_match.MapMatch.{MapMatch}
use Rattle.esc_maps.specs.declared.map_match.MapMatch.TheVariants.{Read}

-- each number is below those behind it
abbrev pub Rises : List ℕ → Type 0
Rises [] = Unit {0}
Rises (n ∷ ns) = ((m : ℕ) → Contains ns m → n < m) × Rises ns

-- the list has exactly the nodes that are so, in the order of making
pub record AreThose (Is : ℕ → Type 0) (nodes : List ℕ) : Type 0 where
  pub exact : (n : ℕ) → Contains nodes n ↔ Is n
  pub rises : Rises nodes

-- each of the first nodes that is a read has the class of its map with the node that stands for its
-- place
pub record AreReads (g : Graph) (standing : List ℕ) (count : ℕ) (entries : List (ℕ × ℕ)) :
    Type 0 where
  pub all : (n m j : ℕ) → n < count → shape_at g.nodes n ≡ read_of m j
      → Contains entries (number_of g m, slice_index standing j)
  pub only : (e : ℕ × ℕ) → Contains entries e → (n m j : ℕ) × (n < count)
      × (shape_at g.nodes n ≡ read_of m j) × (e ≡ (number_of g m, slice_index standing j))

-- the nodes that are entered under a number, from a place on, were added
pub record AreAdded (entries : List (ℕ × ℕ)) (class : ℕ) (old new : List ℕ) (end : ℕ) :
    Type 0 where
  pub within : end ≤ length entries
  pub has : end < length entries → (entry_at entries end).0 ≡ class
  pub kept : (j : ℕ) → Contains old j → Contains new j
  pub only : (j : ℕ) → Contains new j → Contains old j ⊎ Contains entries (class, j)
  pub all : (p : ℕ) → end ≤ p → p < length entries → (entry_at entries p).0 ≡ class
      → Contains new (entry_at entries p).1

-- the node is entered under the class of the write, or under that of what it writes to
abbrev pub IsEntered : Graph → List (ℕ × ℕ) → ℕ → ℕ → Type 0
IsEntered g entries w j =
    Contains entries (number_of g w, j)
    ⊎ Contains entries (number_of g (slice_index (shape_at g.nodes w).args 0), j)

abbrev pub IsMatchBefore : MapMatch → MapMatch → Type 0
IsMatchBefore a b = IsBefore (place_of_match a) (place_of_match b)

abbrev pub AreInOrder : List MapMatch → Type 0
AreInOrder [] = Unit {0}
AreInOrder (m ∷ ms) = ((n : MapMatch) → Contains ms n → IsMatchBefore m n) × AreInOrder ms

-- the list has exactly the places of these writes, in order
pub record AreReadsOf (g : Graph) (depths writes : List ℕ) (found : List MapMatch) : Type 0 where
  pub exact : (m : MapMatch) → Contains found m ↔ ((w j : ℕ) × (m ≡ Read w j)
      × Contains writes w × StandsForClass g depths j × IsReadAt g w j)
  pub ordered : AreInOrder found
