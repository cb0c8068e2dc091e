-- How the classes are closed.
use Rattle.std.specs.Prelude.{ℕ, List, ◌≡◌, ◌<◌, ◌≤◌, ◌⊎◌, length, take}
use Rattle.std.specs.List.{Any, Contains}
use Rattle.esc_trail.specs.Undo.{Notes}
use Rattle.esc_nodes.specs.Nodes.{Shape, shape_at}
use Rattle.esc_index.specs.Places.{entry_at}
use Rattle.esc_union.specs.Merges.{SameClass, class_number, merge_at}
use Rattle.esc_egraph.specs.Graph.{Graph, Adds, number_of}
use Rattle.esc_egraph.specs.GraphUndo.{graph_undo}
use Rattle.esc_egraph.specs.Congruence.{IsCongruence, Meets}
use Rattle.esc_egraph.specs.PartsInside.{IsMatch}
use Rattle.esc_egraph.specs.declared.parts.Parts.{Parts}
use Rattle.esc_egraph.specs.declared.record.EgraphRec.{EgraphRec}

-- the classes of the nodes have grown only as they must, and each change is noted
pub record IsClosing {Whole : Type 0} (carry : EgraphRec → Whole) (entry : Graph)
    (first : List Whole) (now : Graph) (trail : List Whole) : Type 0 where
  pub others : now ≡ record entry { merges = now.merges }
  pub more : Adds entry.merges now.merges
  pub meets : Meets entry.nodes (SameClass (number_of entry)) (number_of now)
  pub finest : (rest : ℕ → ℕ) → IsCongruence entry.nodes rest
      → Meets entry.nodes (SameClass (number_of entry)) rest →
      Meets entry.nodes (SameClass (number_of now)) rest
  pub undo : Notes graph_undo carry first trail entry now

-- an entry of the table matches a shape
abbrev pub IsMatchIn : Parts → Shape → ℕ → Type 0
IsMatchIn p s place = IsMatch p.nodes p.classes.merges p.table s place

abbrev pub IsEntered : Parts → Shape → Type 0
IsEntered p s = (place : ℕ) × IsMatchIn p s place

-- the last match before `end`
pub record IsLastMatch (p : Parts) (s : Shape) (end place : ℕ) : Type 0 where
  pub before : place < end
  pub is : IsMatchIn p s place
  pub last : (other : ℕ) → place < other → other < end → IsMatchIn p s other → ⊥

-- each node has a match in its class, and stands with all its matches, but for those that wait
pub record IsSettled (nodes : List Shape) (merges table : List (ℕ × ℕ)) (Waits : ℕ → Type 0) :
    Type 0 where
  pub entered : (n : ℕ) → n < length nodes →
      ((place : ℕ) × IsMatch nodes merges table (shape_at nodes n) place
      × SameClass (class_number merges) n (entry_at table place).1) ⊎ Waits n
  pub joined : (n place : ℕ) → n < length nodes → IsMatch nodes merges table
      (shape_at nodes n) place →
      SameClass (class_number merges) n (entry_at table place).1
      ⊎ (Waits n ⊎ Waits (entry_at table place).1)

-- a node has another as an argument
abbrev pub HasArgument : List Shape → ℕ → ℕ → Type 0
HasArgument nodes n a = (n < length nodes) × Contains (shape_at nodes n).args a

-- the merge of this number or a later one moved an argument of the node
abbrev pub IsTouched : List Shape → List (ℕ × ℕ) → ℕ → ℕ → Type 0
IsTouched nodes merges from n =
    (i : ℕ) × (from ≤ i) × (i < length merges)
    × Any (λ a. SameClass (class_number (take i merges)) a (merge_at merges i).0)
    (shape_at nodes n).args

-- what waits: the nodes over some members, those over one more by their first entries, and what
-- later merges touched
pub record Waiting : Type 0 where
  pub members : List ℕ
  pub member : ℕ
  pub entries : ℕ
  pub merge : ℕ

-- a node has this number and one of the first entries
abbrev pub IsAmong : List (ℕ × ℕ) → ℕ → ℕ → ℕ → Type 0
IsAmong uses member end n = (place : ℕ) × (place < end) × ((entry_at uses place).0 ≡ member)
    × ((entry_at uses place).1 ≡ n)

abbrev pub IsWaiting : Parts → Waiting → ℕ → Type 0
IsWaiting p w n =
    ((a : ℕ) × Contains w.members a × HasArgument p.nodes n a)
    ⊎ (IsAmong p.uses w.member w.entries n ⊎ IsTouched p.nodes p.classes.merges w.merge n)

abbrev pub IsSettledIn : Parts → (ℕ → Type 0) → Type 0
IsSettledIn p Waits = IsSettled p.nodes p.classes.merges p.table Waits
