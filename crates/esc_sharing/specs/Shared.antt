-- What the sharing promises while it is open: the classes are the least ones for the literals, and
-- the theory admits exactly what literals and classes ask.
use Rattle.std.specs.Prelude.{◌≡◌, ◌↔◌, ℕ, ◌<◌, ◌≤◌, List, [], ◌∷◌, ◌++◌, map, length, take}
use Rattle.std.specs.List.{All, flat_map}
use Rattle.esc_term.specs.declared.term.Term.{Term}
use Rattle.esc_term.specs.declared.formula.Item.{Item}
use Rattle.esc_term.specs.Model.{Model, value_in}
use Rattle.esc_cover.specs.Arithmetic.{InPlay}
use Rattle.esc_cover.specs.Assignment.{Assignment, Gap, NoneNegative, asked}
use Rattle.esc_cover.specs.Counterexample.{IsConsistent}
use Rattle.esc_cover.specs.Laws.{HoldsIn}
use Rattle.esc_cover.specs.Least.{IsLeast}
use Rattle.esc_union.specs.Merges.{SameClass}
use Rattle.esc_egraph.specs.Congruence.{IsMet}
use Rattle.esc_egraph.specs.Graph.{Graph, IsGraph, number_of}
use Rattle.esc_distinct.specs.Groups.{AreBroken}
use Rattle.esc_sharing.specs.Admitted.{AgreesOn, ArePartedBy, AreTwoNumbers, both_gaps}
use Rattle.esc_sharing.specs.Literals.{AreSides, group_item, item_of, sides}
use Rattle.esc_sharing.specs.Nodes.{classes_in, node_count, node_term, terms_in}
use Rattle.esc_sharing.specs.Numbers.{AreNumbersOf, IsNumber, arithmetic_among, number_terms}
use Rattle.esc_sharing.specs.Numbers.{pair_terms}
use Rattle.esc_sharing.specs.SharingUndo.{but_last}
use Rattle.esc_sharing.specs.declared.literal.Lit.{Lit}
use Rattle.esc_sharing.specs.declared.literal.Lit.TheVariants.{Equal, Apart}
use Rattle.esc_sharing.specs.declared.sharing.Sharing.{Sharing}

-- what is seen of a sharing and its theory
pub record Shared : Type 1 where
  pub graph : Graph
  pub groups : List (List ℕ)
  pub asserted : List Lit
  pub told : List (ℕ × ℕ)
  -- the arithmetic nodes with their terms
  pub numbers : List (ℕ × Term)
  pub admits : Assignment → Type 0
  -- that the theory is as it is between any two calls
  pub sound : Type 0

-- by what holds of a theory of this kind, what it admits, and its arithmetic nodes
abbrev pub seen : {T : Type 0} → (T → Type 0) → (T → Assignment → Type 0)
    → (T → List (ℕ × Term)) → Sharing T → Shared
seen sound admits numbers s = record {
  graph = s.graph;
  groups = s.groups;
  asserted = s.asserted;
  told = s.told;
  numbers = numbers s.theory;
  admits = admits s.theory;
  sound = sound s.theory;
}

-- ---- in terms

-- the literals that were asserted
abbrev pub items_in : Shared → List Item
items_in v = map (item_of v.graph) v.asserted

-- these, and the distinctions of the groups
abbrev pub literals_in : Shared → List Item
literals_in v = items_in v ++ map (group_item v.graph) v.groups

abbrev pub play_in : Shared → InPlay
play_in v = record { terms = terms_in v.graph; numbers = number_terms v.numbers }

abbrev pub told_in : Shared → List (Term × Term)
told_in v = map (λ pair. (node_term v.graph pair.0, node_term v.graph pair.1)) v.told

-- the sides of the literals that are arithmetic
abbrev pub literal_terms : Shared → List Term
literal_terms v =
    arithmetic_among v.numbers (flat_map (λ lit. pair_terms v.graph (sides lit)) v.asserted)

-- no model makes the literals hold
abbrev pub HaveNoModel : List Item → Type 0
HaveNoModel literals = (M : Model) → All (HoldsIn M) literals → ⊥

-- in each model of the literals the two terms have one value
abbrev pub AreEqualInModels : List Item → Term × Term → Type 0
AreEqualInModels literals pair = (M : Model) → All (HoldsIn M) literals
    → value_in M pair.0 ≡ value_in M pair.1

-- ---- what is admitted

-- those that make none of these gaps negative
abbrev pub AdmitsJust : Shared → List Gap → List Gap → Type 0
AdmitsJust v asking telling =
    (x : Assignment) → v.admits x ↔ (NoneNegative x asking × NoneNegative x telling)

-- each gap of the literals, and both of each told pair
abbrev pub AdmitsAll : Shared → Type 0
AdmitsAll v = AdmitsJust v (flat_map asked (items_in v)) (flat_map both_gaps (told_in v))

-- the nodes are arithmetic, and stand in one class
pub record AreToldIn (g : Graph) (numbers : List (ℕ × Term)) (pair : ℕ × ℕ) : Type 0 where
  pub first : IsNumber numbers pair.0
  pub second : IsNumber numbers pair.1
  pub together : SameClass (number_of g) pair.0 pair.1

-- so many gaps of the literals are asked, and of the told pairs, where the last literal and the
-- last pair may be underway
pub record IsUnderway (v : Shared) : Type 0 where
  pub asking : ℕ
  pub telling : ℕ
  pub last_literal : length (flat_map asked (but_last (items_in v))) ≤ asking
  pub last_pair : length (flat_map both_gaps (but_last (told_in v))) ≤ telling
  pub admits : AdmitsJust v (take asking (flat_map asked (items_in v)))
      (take telling (flat_map both_gaps (told_in v)))
  pub follow : All (AreEqualInModels (literals_in v)) (told_in v)
  pub numbers : AreNumbersOf v.graph v.numbers
  pub told : All (AreToldIn v.graph v.numbers) v.told

-- ---- the whole

-- the sides of an equation that holds stand in one class
abbrev pub IsMetIn : Graph → Lit → Type 0
IsMetIn g (Equal a b) = SameClass (number_of g) a b
IsMetIn g lit = Unit {0}

-- the sides of an equation that fails
abbrev pub denied_pair : Lit → List (ℕ × ℕ)
denied_pair (Apart a b) = (a, b) ∷ []
denied_pair lit = []

-- the parts belong together
pub record AreParts (v : Shared) : Type 0 where
  pub sound : v.sound
  pub graph : IsGraph v.graph
  pub met : IsMet v.graph
  pub sides : All (AreSides v.graph v.numbers) v.asserted
  pub equations : All (IsMetIn v.graph) v.asserted
  pub forbidden : v.graph.forbidden ≡ flat_map denied_pair v.asserted
  pub members : All (All (λ a. a < node_count v.graph)) v.groups
  pub unbroken : AreBroken (number_of v.graph) v.groups → ⊥
  pub numbers : AreNumbersOf v.graph v.numbers
  pub told : All (AreToldIn v.graph v.numbers) v.told

-- classes and theory say the same of arithmetic nodes: one class has one value in all that is
-- admitted, and two classes are parted by it
pub record Agree (v : Shared) : Type 0 where
  pub one_value : (x : Assignment) → v.admits x → AgreesOn v.graph v.numbers x
  pub parted : (a b : ℕ) → AreTwoNumbers v.graph v.numbers a b
      → ArePartedBy v.admits (node_term v.graph a) (node_term v.graph b)

pub record IsShared (v : Shared) : Type 0 where
  pub parts : AreParts v
  pub least : IsLeast (literals_in v) (play_in v) (classes_in v.graph)
  pub consistent : IsConsistent (literals_in v) (classes_in v.graph)
  pub exact : AdmitsAll v
  pub some : (x : Assignment) × v.admits x
  pub agree : Agree v
