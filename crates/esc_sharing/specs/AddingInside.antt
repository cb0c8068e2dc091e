-- How a term comes in play: nodes are made from the bottom of the term up, and those that become
-- arithmetic are gathered on the way.
use Rattle.std.specs.Prelude.{◌≡◌, ◌⊎◌, ℕ, ◌<◌, Bool, true, false, if◌then◌else◌, List, [], ◌∷◌}
use Rattle.std.specs.Prelude.{◌++◌, length}
use Rattle.esc_term.specs.declared.term.Head.{Head}
use Rattle.esc_term.specs.declared.term.Head.TheVariants.{Name, Skolem, Add, Sub, Mul}
use Rattle.esc_term.specs.declared.term.Term.{Term}
use Rattle.esc_term.specs.declared.term.Term.TheViews.{out-Term}
use Rattle.esc_cover.specs.Arithmetic.{is_number, operands_form}
use Rattle.esc_union.specs.Merges.{SameClass}
use Rattle.esc_nodes.specs.Nodes.{Shape}
use Rattle.esc_egraph.specs.Congruence.{IsLeast, IsMet, SameAmong}
use Rattle.esc_egraph.specs.Graph.{Graph, IsGraph, number_of}
use Rattle.esc_node_terms.specs.Nodes.{AreNodesOf}
use Rattle.esc_sharing.specs.Numbers.{IsNumber}

-- ---- the graph

-- nodes were made, and the classes are the least ones over those that there were
pub record IsGrown (old new : Graph) : Type 0 where
  pub nodes : (more : List Shape) × (new.nodes ≡ old.nodes ++ more)
  pub forbidden : new.forbidden ≡ old.forbidden
  pub kept : (a b : ℕ) → a < length old.nodes → b < length old.nodes
      → SameClass (number_of new) a b → SameClass (number_of old) a b
  pub least : IsLeast new.nodes (SameAmong (length old.nodes) (number_of old)) (number_of new)
  pub met : IsMet new
  pub graph : IsGraph new

-- ---- what becomes arithmetic

abbrev pub is_sum : Head → Bool
is_sum (Name name) = false
is_sum (Skolem n i) = false
is_sum Add = true
is_sum Sub = true
is_sum Mul = true

-- the nodes that an application with this head makes arithmetic: those of its arguments and its own
abbrev pub named_nodes : Head → List ℕ → ℕ → List ℕ
named_nodes head args node = if is_sum head then args ++ node ∷ [] else []

-- a number form behind what it is made of
abbrev pub named : Term → List Term
named t = operands_form (out-Term t) ++ (if is_number t then t ∷ [] else [])

-- the nodes of these terms came behind the others
pub record Gathers (shapes : List Shape) (old new : List ℕ) (terms : List Term) : Type 0 where
  pub more : List ℕ
  pub gathered : new ≡ old ++ more
  pub are : AreNodesOf shapes more terms

-- ---- what the theory knows before

-- two nodes were arithmetic and stand in one class, or are one
abbrev pub WereKnown : List (ℕ × Term) → (ℕ → ℕ) → ℕ → ℕ → Type 0
WereKnown numbers number a b =
    (IsNumber numbers a × IsNumber numbers b × SameClass number a b) ⊎ (a ≡ b)
