-- What contracts see of a graph.
use Rattle.std.specs.Prelude.{ℕ, List, ◌≡◌, ◌++◌, ◌<◌, length, All}
use Rattle.esc_nodes.specs.Nodes.{Shape, AreTerms}
use Rattle.esc_union.specs.Merges.{AreMerges, class_number}

-- the nodes in the order of making, the pairs whose classes were merged in order, and the pairs
-- that no class may hold
pub record Graph : Type 0 where
  pub nodes : List Shape
  pub merges : List (ℕ × ℕ)
  pub forbidden : List (ℕ × ℕ)

-- the number of each node's class
abbrev pub number_of : Graph → ℕ → ℕ
number_of g = class_number g.merges

-- the nodes are terms, each merge joined two classes of them, and each forbidden pair is of nodes
pub record IsGraph (g : Graph) : Type 0 where
  pub terms : AreTerms g.nodes
  pub merged : AreMerges (length g.nodes) g.merges
  pub paired : All (λ p. (p.0 < length g.nodes) × (p.1 < length g.nodes)) g.forbidden

-- merges were added at the end
abbrev pub Adds : List (ℕ × ℕ) → List (ℕ × ℕ) → Type 0
Adds old new = (more : List (ℕ × ℕ)) × (new ≡ old ++ more)
