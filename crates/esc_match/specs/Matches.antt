-- What it is to list the matches of a trigger.
use Rattle.std.specs.Prelude.{◌≡◌, ℕ, ◌<◌, IsTrue, Bool, List, length, reverse, slice_index}
use Rattle.std.specs.List.{All, Any}
use Rattle.esc_term.specs.declared.term.Term.{Term}
use Rattle.esc_egraph.specs.Graph.{Graph, number_of}
use Rattle.esc_egraph.specs.Congruence.{AllSame}
use Rattle.esc_match.specs.Match.{TriggerMatch}
use Rattle.esc_match.specs.Order.{IsInOrder}

-- the number of the class of each variable, where the nodes are of these classes, that of the
-- outermost variable first
abbrev pub class_in : Graph → List ℕ → ℕ → ℕ
class_in g members k = number_of g (slice_index (reverse members) k)

-- the trigger matches with a node of the class of each of so many variables, and one of the matched
-- nodes is wanted
pub record WantedMatch (g : Graph) (count : ℕ) (trigger : List Term) (wants : ℕ → Bool)
    (members matched : List ℕ) : Type 0 where
  pub many : length members ≡ count
  pub there : All (λ n. n < length g.nodes) members
  pub match : TriggerMatch g (class_in g members) trigger matched
  pub wanted : Any (λ n. IsTrue (wants n)) matched

-- The list has exactly the matches with a wanted node, each once up to congruence, in the order of
-- their first places. A match stands at the list of its matched nodes.
pub record AreMatches (g : Graph) (count : ℕ) (trigger : List Term) (wants : ℕ → Bool)
    (found : List (List ℕ)) : Type 0 where
  pub sound : All (λ members. (matched : List ℕ)
      × WantedMatch g count trigger wants members matched) found
  pub complete : (members matched : List ℕ) → WantedMatch g count trigger wants members matched
      → Any (AllSame (number_of g) members) found
  pub ordered : IsInOrder (WantedMatch g count trigger wants) found
