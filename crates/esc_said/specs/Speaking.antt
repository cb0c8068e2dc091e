-- Who speaks for literals: what is said by a graph, groups and asserted literals is what these
-- literals and the classes of the graph say.
use Rattle.std.specs.Prelude.{◌≡◌, ◌↔◌, ◌<◌, Bool, List, map}
use Rattle.std.specs.List.{All, Contains}
use Rattle.esc_term.specs.declared.term.Term.{Term}
use Rattle.esc_term.specs.declared.formula.Item.{Item}
use Rattle.esc_cover.specs.Cover.{Cover}
use Rattle.esc_egraph.specs.Graph.{Graph, IsGraph}
use Rattle.esc_simplex.specs.View.{Allows, IsSimplex, numbers_in}
use Rattle.esc_simplex.specs.declared.simplex.Simplex.{Simplex}
use Rattle.esc_sharing.specs.Literals.{item_of, order, sides}
use Rattle.esc_sharing.specs.Nodes.{node_count}
use Rattle.esc_sharing.specs.Shared.{IsShared, literals_in, seen}
use Rattle.esc_sharing.specs.Unquantified.{HaveSameUnquantified}
use Rattle.esc_sharing.specs.declared.literal.Lit.{Lit}
use Rattle.esc_sharing.specs.declared.sharing.Sharing.{Sharing}
use Rattle.esc_said.specs.HeldApart.{AreHeldApart}
use Rattle.esc_said.specs.declared.said.Said.{Said}
use Rattle.esc_said.specs.declared.saying.Saying.{Saying}

-- both sides are nodes of the graph
pub record HasSides (g : Graph) (lit : Lit) : Type 0 where
  pub first : (sides lit).0 < node_count g
  pub second : (sides lit).1 < node_count g

-- the groups and the asserted literals are of nodes of the graph
pub record IsSaying (s : Saying) : Type 0 where
  pub graph : IsGraph s.graph.now
  pub members : All (All (λ a. a < node_count s.graph.now)) s.groups.now
  pub sides : All (HasSides s.graph.now) s.asserted.now

-- the orders among the literals are those that were asserted
abbrev pub HaveSameOrders : Graph → List Lit → List Item → Type 0
HaveSameOrders g asserted literals = (s t : Term) (positive : Bool)
    → Contains literals (order s t positive)
    ↔ Contains (map (item_of g) asserted) (order s t positive)

-- graph and groups hold apart what the literals do, and the orders are the asserted ones
pub record SpeaksFor (s : Saying) (literals : List Item) : Type 0 where
  pub saying : IsSaying s
  pub held : AreHeldApart s.graph.now s.groups.now literals
  pub orders : HaveSameOrders s.graph.now s.asserted.now literals

-- the same is said
pub record SaysAs (said : Said) (c : Cover) : Type 0 where
  pub holds : said.holds ≡ c.holds
  pub fails : said.fails ≡ c.fails

-- ---- a sharing

-- the graph, the groups and the asserted literals are those of the sharing
pub record IsSayingOf (saying : Saying) (s : Sharing Simplex) : Type 0 where
  pub graph : saying.graph.now ≡ s.graph
  pub groups : saying.groups.now ≡ s.groups
  pub asserted : saying.asserted.now ≡ s.asserted

-- it speaks for the literals of an open sharing, with any quantified ones beside them
abbrev pub SharingSpeaks : Type 0
SharingSpeaks = (s : Sharing Simplex) (saying : Saying) (literals : List Item)
    → IsSayingOf saying s → IsShared (seen IsSimplex Allows numbers_in s)
    → HaveSameUnquantified (literals_in (seen IsSimplex Allows numbers_in s)) literals
    → SpeaksFor saying literals
