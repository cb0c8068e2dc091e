-- How one bound node is chosen for each class.
use Rattle.std.specs.Prelude.{ℕ, ◌<◌, List, length}
use Rattle.std.specs.List.{All, Contains}
use Rattle.esc_union.specs.Merges.{SameClass}
use Rattle.esc_egraph.specs.Graph.{Graph, number_of}
use Rattle.esc_sharing.specs.KnownInside.{node_at}

-- a node of this one's class is among them
abbrev pub StandsAmong : Graph → List (ℕ × ℕ) → ℕ → Type 0
StandsAmong g pairs a = (p : ℕ × ℕ) × Contains pairs p × SameClass (number_of g) a p.0

-- for each bound node one of its class
pub record AreChosen (g : Graph) (bound pairs : List (ℕ × ℕ)) : Type 0 where
  pub among : All (Contains bound) pairs
  pub each : All (λ pair. StandsAmong g pairs pair.0) bound

-- the node at one of the places is of this one's class
abbrev pub StandsAtOne : Graph → List (ℕ × ℕ) → List ℕ → ℕ → Type 0
StandsAtOne g bound places a = (p : ℕ) × Contains places p
    × SameClass (number_of g) a (node_at bound p)

-- for each bound node the place of one of its class
pub record AreClassPlaces (g : Graph) (bound : List (ℕ × ℕ)) (places : List ℕ) : Type 0 where
  pub within : All (λ p. p < length bound) places
  pub each : (i : ℕ) → i < length bound → StandsAtOne g bound places (node_at bound i)
