-- What holds of the terms of a graph's nodes.
use Rattle.std.specs.Prelude.{◌≡◌, ◌↔◌, ℕ, ◌<◌, IsTrue, List}
use Rattle.esc_term.specs.declared.term.Term.{Term}
use Rattle.esc_term.specs.declared.formula.Item.{Item}
use Rattle.esc_cover.specs.Classes.{together}
use Rattle.esc_cover.specs.Counterexample.{IsConsistent}
use Rattle.esc_union.specs.Merges.{SameClass}
use Rattle.esc_egraph.specs.Congruence.{IsMet}
use Rattle.esc_egraph.specs.Graph.{Graph, IsGraph, number_of}
use Rattle.esc_distinct.specs.Groups.{AreBroken}
use Rattle.esc_node_terms.specs.LiteralForms.{AreKept}
use Rattle.esc_node_terms.specs.Nodes.{classes_in, node_count, node_term}

-- nodes of one class that have these terms
abbrev pub HaveNodesOfOneClass : Graph → Term → Term → Type 0
HaveNodesOfOneClass g s t = (a : ℕ) × (b : ℕ) × (a < node_count g) × (b < node_count g)
    × (node_term g a ≡ s) × (node_term g b ≡ t) × SameClass (number_of g) a b

-- terms stand in one class exactly where they are those of nodes of one class
abbrev pub AreClassesOfNodes : Type 0
AreClassesOfNodes = (g : Graph) → IsGraph g → (s t : Term)
    → IsTrue (together (classes_in g) s t) ↔ HaveNodesOfOneClass g s t

-- classes that hold nothing which graph and groups keep apart agree with the literals
abbrev pub GroupsAgree : Type 0
GroupsAgree = (g : Graph) (groups : List (List ℕ)) (literals : List Item)
    → AreKept g groups literals → IsMet g → (AreBroken (number_of g) groups → ⊥)
    → IsConsistent literals (classes_in g)
