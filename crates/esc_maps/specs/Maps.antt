-- Writes and reads of maps.
use Rattle.std.specs.Prelude.{◌≡◌, ℕ, ◌<◌, ◌⊎◌, List, [], ◌∷◌, length}
use Rattle.esc_term.specs.declared.term.Head.TheVariants.{Name}
use Rattle.esc_nodes.specs.Nodes.{Shape, shape_at}
use Rattle.esc_nodes.specs.declared.top.Top.TheVariants.{App}
use Rattle.esc_union.specs.Merges.{SameClass}
use Rattle.esc_egraph.specs.Congruence.{AreAlike}
use Rattle.esc_egraph.specs.Graph.{Graph, number_of}
use Rattle.esc_maps.specs.Chosen.{IsShallowest}

-- the value of a map at a place
abbrev pub read_of : ℕ → ℕ → Shape
read_of m j = record { top = App (Name (record { 0 = 1 })); args = m ∷ j ∷ [] }

-- a map with a new value at a place
abbrev pub write_of : ℕ → ℕ → ℕ → Shape
write_of m i x = record { top = App (Name (record { 0 = 2 })); args = m ∷ i ∷ x ∷ [] }

abbrev pub IsWrite : Graph → ℕ → Type 0
IsWrite g n = (m i x : ℕ) × (shape_at g.nodes n ≡ write_of m i x)

-- the writes have map, place and value in the same classes
abbrev pub AreAlikeWrites : Graph → ℕ → ℕ → Type 0
AreAlikeWrites g v w = AreAlike (number_of g) (shape_at g.nodes v) (shape_at g.nodes w)

-- the write stands for all that are alike
abbrev pub StandsForWrites : Graph → List ℕ → ℕ → Type 0
StandsForWrites g depths w = IsWrite g w × IsShallowest g depths (λ v. AreAlikeWrites g v w) w

-- the map is of the class of the write, or of the class of what it writes to
abbrev pub IsMapOf : Graph → ℕ → ℕ → Type 0
IsMapOf g v map =
    SameClass (number_of g) v map
    ⊎ ((m i x : ℕ) × (shape_at g.nodes v ≡ write_of m i x) × SameClass (number_of g) m map)

-- some write alike, or what it writes to, is read at a place of the node's class
pub record IsReadAt (g : Graph) (w j : ℕ) : Type 0 where
  pub write : ℕ
  pub write_there : write < length g.nodes
  pub alike : AreAlikeWrites g write w
  pub read : ℕ
  pub read_there : read < length g.nodes
  pub map : ℕ
  pub place : ℕ
  pub is : shape_at g.nodes read ≡ read_of map place
  pub of : IsMapOf g write map
  pub at : SameClass (number_of g) place j
