-- What holds of matches while nodes are made and classes joined.
use Rattle.std.specs.Prelude.{◌≡◌, ℕ, ◌<◌, List, ◌++◌, length}
use Rattle.std.specs.List.{All}
use Rattle.esc_term.specs.declared.term.Term.{Term}
use Rattle.esc_nodes.specs.Nodes.{Shape}
use Rattle.esc_union.specs.Merges.{SameClass}
use Rattle.esc_egraph.specs.Graph.{Graph, IsGraph, number_of}
use Rattle.esc_egraph.specs.Congruence.{AllSame}
use Rattle.esc_match.specs.Match.{TriggerMatch}
use Rattle.esc_match.specs.Matches.{class_in}

-- there are more nodes, and classes are coarser
pub record IsCoarser (old new : Graph) : Type 0 where
  pub nodes : (more : List Shape) × (new.nodes ≡ old.nodes ++ more)
  pub classes : (a b : ℕ) → SameClass (number_of old) a b → SameClass (number_of new) a b

-- a match stays one with more nodes and coarser classes
abbrev pub MatchesStay : Type 0
MatchesStay =
    (old new : Graph) → IsCoarser old new → (trigger : List Term) (members matched : List ℕ) →
    TriggerMatch old (class_in old members) trigger matched →
    TriggerMatch new (class_in new members) trigger matched

-- a match is one for all nodes of the same classes
abbrev pub MatchesAreCongruent : Type 0
MatchesAreCongruent =
    (g : Graph) (trigger : List Term) (members others matched : List ℕ) →
    AllSame (number_of g) members others →
    TriggerMatch g (class_in g members) trigger matched →
    TriggerMatch g (class_in g others) trigger matched

-- the class of the node is as it was
abbrev pub IsAsBefore : Graph → Graph → ℕ → Type 0
IsAsBefore old new n =
    (m : ℕ) → m < length new.nodes → SameClass (number_of new) m n →
    (m < length old.nodes) × SameClass (number_of old) m n

-- a match of nodes whose classes did not change was one before
abbrev pub UnchangedMatchesAreOld : Type 0
UnchangedMatchesAreOld =
    (old new : Graph) → IsCoarser old new → IsGraph new → (trigger : List Term)
    (members matched : List ℕ) → All (λ n. n < length new.nodes) members →
    All (IsAsBefore old new) matched → TriggerMatch new (class_in new members) trigger matched →
    TriggerMatch old (class_in old members) trigger matched
