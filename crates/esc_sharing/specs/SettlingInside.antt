-- What holds while graph and theory tell each other equalities, and what each step leaves.
use Rattle.std.specs.Prelude.{◌≡◌, ℕ, ◌<◌, Bool, IsTrue, List, ◌++◌, length}
use Rattle.std.specs.List.{All, Contains}
use Rattle.std.specs.List.Sorted.{IsNonDecreasingBy}
use Rattle.esc_term.specs.declared.term.Term.{Term}
use Rattle.esc_term.specs.declared.formula.Item.{Item}
use Rattle.esc_cover.specs.Assignment.{Assignment}
use Rattle.esc_cover.specs.Least.{IsCongruent}
use Rattle.esc_trail.specs.Undo.{Notes, Undo}
use Rattle.esc_union.specs.Merges.{SameClass}
use Rattle.esc_nodes.specs.Nodes.{Shape}
use Rattle.esc_nodes.specs.Terms.{term_of, terms_of}
use Rattle.esc_egraph.specs.Graph.{Graph, number_of}
use Rattle.esc_simplex.specs.Senses.{Sense}
use Rattle.esc_sharing.specs.Admitted.{AgreesOn, AreEqualBy}
use Rattle.esc_sharing.specs.Calls.{TellsMore}
use Rattle.esc_sharing.specs.KnownInside.{node_at}
use Rattle.esc_sharing.specs.Nodes.{node_term}
use Rattle.esc_sharing.specs.Numbers.{AddsMade, IsNumber, number_terms}
use Rattle.esc_sharing.specs.Shared.{AdmitsAll, AreParts, Shared, literals_in}
use Rattle.esc_sharing.specs.SharingUndo.{sharing_undo}
use Rattle.esc_sharing.specs.declared.literal.Lit.{Lit}
use Rattle.esc_sharing.specs.declared.record.PartRec.{PartRec}
use Rattle.esc_sharing.specs.declared.sharing.Sharing.{Sharing}
use Rattle.esc_sharing.specs.declared.telling.Telling.{Telling}

-- ---- what is demanded

-- the test joins the terms of nodes of one class
abbrev pub Joins : (Term → Term → Bool) → List Shape → (ℕ → ℕ) → Type 0
Joins other nodes number = (a b : ℕ) → a < length nodes → b < length nodes → SameClass number a b
    → IsTrue (other (term_of nodes a) (term_of nodes b))

-- each congruent test does so, where the nodes' terms are in play, and these numbers are arithmetic
abbrev pub IsDemanded : List Item → List Shape → List Term → (ℕ → ℕ) → Type 0
IsDemanded literals nodes numbers number = (other : Term → Term → Bool)
    → IsCongruent other (record { terms = terms_of nodes; numbers = numbers }) literals
    → Joins other nodes number

-- what the classes of a view join is demanded by its literals
abbrev pub JoinsDemanded : Shared → Type 0
JoinsDemanded v =
    IsDemanded (literals_in v) v.graph.nodes (number_terms v.numbers) (number_of v.graph)

-- ---- while equalities are told

-- arithmetic nodes that are known to be equal have one value in all that is admitted
abbrev pub IsKnown : Shared → (ℕ → ℕ → Type 0) → Type 0
IsKnown v Known = (a b : ℕ) → IsNumber v.numbers a → IsNumber v.numbers b → Known a b
    → AreEqualBy v.admits (node_term v.graph a) (node_term v.graph b)

-- the literals are met, and the theory may not know all that the classes join
pub record IsUnsettled (v : Shared) (Known : ℕ → ℕ → Type 0) : Type 0 where
  pub parts : AreParts v
  pub exact : AdmitsAll v
  pub some : (x : Assignment) × v.admits x
  pub demanded : JoinsDemanded v
  pub known_equal : IsKnown v Known

-- ---- in which order it is told

-- each seat has the place of a known node, beside the number of its class, in the order of these
-- numbers; and each place has a seat
pub record AreSeated (g : Graph) (known seats : List (ℕ × ℕ)) : Type 0 where
  pub right : All (λ seat. (seat.1 < length known)
      × (seat.0 ≡ number_of g (node_at known seat.1))) seats
  pub each : (i : ℕ) → i < length known → Contains seats (number_of g (node_at known i), i)
  pub rising : IsNonDecreasingBy (λ seat. seat.0) seats

-- the known nodes at the first places, and at the later ones, stand in one class, and all of a class
-- have the same first one
pub record IsOrder (g : Graph) (known : List (ℕ × ℕ)) (order : List Telling) : Type 0 where
  pub within : All (λ t. (t.first < length known) × (t.later < length known)
      × SameClass (number_of g) (node_at known t.first) (node_at known t.later)) order
  pub each : (i j : ℕ) → i < length known → j < length known
      → SameClass (number_of g) (node_at known i) (node_at known j)
      → (s t : Telling) × Contains order s × Contains order t × (s.first ≡ t.first)
      × (s.later ≡ i) × (t.later ≡ j)

-- what is admitted gives arithmetic nodes of one class one value
abbrev pub AllAgree : Shared → Type 0
AllAgree v = (x : Assignment) → v.admits x → AgreesOn v.graph v.numbers x

-- ---- what a step leaves

-- these literals and groups came behind the others, and pairs were told
pub record Keeps {T Q W : Type 0} (theory_undo : Undo T Q) (carry : PartRec Q → W)
    (is_sound : T → Type 0) (numbers_of : T → List (ℕ × Term)) (made_of : T → List Sense)
    (lits : List Lit) (more : List (List ℕ)) (before after : List W) (v w : Sharing T) : Type 0
  where
    pub sound : is_sound w.theory
    pub numbers : numbers_of w.theory ≡ numbers_of v.theory
    pub made : AddsMade (made_of v.theory) (made_of w.theory) (number_terms (numbers_of v.theory))
    pub asserted : w.asserted ≡ v.asserted ++ lits
    pub groups : w.groups ≡ v.groups ++ more
    pub told : TellsMore v.told w.told
    pub nodes : w.graph.nodes ≡ v.graph.nodes
    pub undo : Notes (sharing_undo theory_undo) carry before after v w
