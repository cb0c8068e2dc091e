-- How a graph is held.
use Rattle.std.specs.Prelude.{ℕ, List, [], ◌∷◌, ◌++◌, ◌≡◌, ◌+◌, ◌<◌, ◌≤◌, if◌then◌else◌, nat_lt, min, length, map, take, All, IsTrue, slice_index}
use Rattle.std.specs.List.{AllPairs}
use Rattle.esc_nodes.specs.Nodes.{Shape, shape_at}
use Rattle.esc_nodes.specs.declared.top.Top.{Top}
use Rattle.esc_nodes.specs.declared.top.Top.TheVariants.{Num, App}
use Rattle.esc_index.specs.Places.{entry_at}
use Rattle.esc_union.specs.Merges.{class_number}
use Rattle.esc_union.specs.Members.{members_of}
use Rattle.esc_egraph.specs.Graph.{Graph, IsGraph}
use Rattle.esc_egraph.specs.Congruence.{AreAlike}
use Rattle.esc_egraph.specs.KeysInside.{key_of}
use Rattle.esc_egraph.specs.SidesInside.{IsSided}
use Rattle.esc_egraph.specs.declared.parts.Parts.{Parts}
use Rattle.esc_egraph.specs.declared.step.Step.{Step}

abbrev pub graph_in : Parts → Graph
graph_in p = record { nodes = p.nodes; merges = p.classes.merges; forbidden = p.forbidden.items }

-- ---- numerals

abbrev pub IsNumeral : Top → Type 0
IsNumeral (Num n) = Unit {0}
IsNumeral (App head) = ⊥

-- the first place of a numeral among some nodes, or one past them where none is one
pub record IsFirst (nodes : List Shape) (members : List ℕ) (place : ℕ) : Type 0 where
  pub is : place < length members → IsNumeral (shape_at nodes (slice_index members place)).top
  pub before : (i : ℕ) → i < length members → i < place
      → IsNumeral (shape_at nodes (slice_index members i)).top → ⊥

-- the first place among some nodes and others after them
abbrev pub joined_place : ℕ → ℕ → ℕ → ℕ → ℕ
joined_place place other count more = if nat_lt place count then place else count + min other more

-- for each node the first place of a numeral among its members
pub record AreNumbered (nodes : List Shape) (merges : List (ℕ × ℕ)) (numerals : List ℕ) :
    Type 0 where
  pub as_many : length numerals ≡ length nodes
  pub first : (k : ℕ) → k < length nodes → IsFirst nodes (members_of merges k)
      (slice_index numerals k)

-- ---- nodes by their arguments

-- each argument of each node with the node, where the first node has this number
abbrev pub uses_from : ℕ → List Shape → List (ℕ × ℕ)
uses_from k [] = []
uses_from k (s ∷ rest) = map (λ a. (a, k)) s.args ++ uses_from (k + 1) rest

unfoldable pub uses_of : List Shape → List (ℕ × ℕ)
uses_of nodes = uses_from 0 nodes

-- ---- the signature table

-- an entry has the key of a shape under the present classes, and its node is alike to the shape
pub record IsMatch (nodes : List Shape) (merges : List (ℕ × ℕ)) (table : List (ℕ × ℕ)) (s : Shape)
    (place : ℕ) : Type 0 where
  pub there : place < length table
  pub node : (entry_at table place).1 < length nodes
  pub key : (entry_at table place).0 ≡ key_of (class_number merges) s
  pub alike : AreAlike (class_number merges) (shape_at nodes (entry_at table place).1) s

-- each node has a match
abbrev pub IsWhole : List Shape → List (ℕ × ℕ) → List (ℕ × ℕ) → Type 0
IsWhole nodes merges table = (n : ℕ) → n < length nodes → (place : ℕ)
    × IsMatch nodes merges table (shape_at nodes n) place

-- a step was made when there were at most so many nodes, merges and entries
pub record IsWithin (nodes : List Shape) (merges table : List (ℕ × ℕ)) (s : Step) : Type 0 where
  pub nodes_then : s.nodes ≤ length nodes
  pub merges_then : s.merges ≤ length merges
  pub table_then : s.table ≤ length table
  pub low_then : All (λ e. e.1 < s.nodes) (take s.table table)
  pub whole_then : IsTrue s.whole → IsWhole (take s.nodes nodes) (take s.merges merges)
      (take s.table table)

-- a step was made before another
pub record IsEarlier (s t : Step) : Type 0 where
  pub fewer_nodes : s.nodes ≤ t.nodes
  pub fewer_merges : s.merges ≤ t.merges
  pub fewer_entries : s.table ≤ t.table

pub record AreSteps (nodes : List Shape) (merges table : List (ℕ × ℕ)) (steps : List Step) :
    Type 0 where
  pub within : All (IsWithin nodes merges table) steps
  pub in_order : AllPairs IsEarlier steps

-- ---- all of it

pub record IsSound (p : Parts) : Type 0 where
  pub graph : IsGraph (graph_in p)
  pub as_many : p.classes.count ≡ length p.nodes
  pub sided : IsSided p.classes.merges p.forbidden.items p.sides
  pub numbered : AreNumbered p.nodes p.classes.merges p.numerals.items
  pub used : p.uses ≡ uses_of p.nodes
  pub low : All (λ e. e.1 < length p.nodes) p.table
  pub tabled : IsTrue p.whole → IsWhole p.nodes p.classes.merges p.table
  pub stepped : AreSteps p.nodes p.classes.merges p.table p.steps.items
