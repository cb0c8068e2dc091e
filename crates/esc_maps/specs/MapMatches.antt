-- What it is to list where the facts about maps apply.
use Rattle.std.specs.Prelude.{ℕ, ◌↔◌, List, [], ◌∷◌}
use Rattle.std.specs.List.{AllPairs, Contains}
use Rattle.esc_egraph.specs.Graph.{Graph}
use Rattle.esc_match.specs.Order.{IsBefore}
use Rattle.esc_maps.specs.Chosen.{StandsForClass}
use Rattle.esc_maps.specs.Maps.{IsReadAt, StandsForWrites}
use Rattle.esc_maps.specs.declared.map_match.MapMatch.{MapMatch}
use Rattle.esc_maps.specs.declared.map_match.MapMatch.TheVariants.{Write, Read}

-- a write that stands for those alike, alone or with the class of a place at which it or what it
-- writes to is read
abbrev pub IsMapMatch : Graph → List ℕ → MapMatch → Type 0
IsMapMatch g depths (Write w) = StandsForWrites g depths w
IsMapMatch g depths (Read w j) =
    StandsForWrites g depths w × StandsForClass g depths j × IsReadAt g w j

-- the writes come first, and then those with a place, in the order of the nodes
abbrev pub place_of_match : MapMatch → List ℕ
place_of_match (Write w) = 0 ∷ w ∷ []
place_of_match (Read w j) = 1 ∷ w ∷ j ∷ []

-- the list has exactly these, each once, in this order
pub record AreMapMatches (g : Graph) (depths : List ℕ) (found : List MapMatch) : Type 0 where
  pub exact : (m : MapMatch) → Contains found m ↔ IsMapMatch g depths m
  pub ordered : AllPairs (λ a b. IsBefore (place_of_match a) (place_of_match b)) found
