-- What is read of a graph: its nodes, their terms, and which terms stand in one class.
use Rattle.std.specs.Prelude.{◌≡◌, ℕ, suc, ◌<◌, Bool, ◌==◌, if◌then◌else◌, List, [], ◌∷◌}
use Rattle.std.specs.Prelude.{length, map}
use Rattle.std.specs.List.{All}
use Rattle.esc_term.specs.declared.term.Term.{Term}
use Rattle.esc_term.specs.Equal.{same_term}
use Rattle.esc_cover.specs.Classes.{classes_by}
use Rattle.esc_nodes.specs.Nodes.{Shape}
use Rattle.esc_nodes.specs.Terms.{term_of, terms_of}
use Rattle.esc_egraph.specs.Graph.{Graph, number_of}

abbrev pub node_count : Graph → ℕ
node_count g = length g.nodes

abbrev pub node_term : Graph → ℕ → Term
node_term g a = term_of g.nodes a

-- the terms of the nodes, in the order of making
abbrev pub terms_in : Graph → List Term
terms_in g = terms_of g.nodes

-- how many terms stand before the first that is this one
unfoldable pub place_among : List Term → Term → ℕ
place_among [] t = 0
place_among (u ∷ us) t = if same_term u t then 0 else suc (place_among us t)

-- the number of a term's class
abbrev pub class_of_term : Graph → Term → ℕ
class_of_term g t = number_of g (place_among (terms_in g) t)

-- the terms stand in one class
abbrev pub same_in : Graph → Term → Term → Bool
same_in g s t = class_of_term g s == class_of_term g t

-- the terms, parted into classes
unfoldable pub classes_in : Graph → List (List Term)
classes_in g = classes_by (same_in g) (terms_in g)

-- the nodes stand among these, and have these terms
pub record AreNodesOf (shapes : List Shape) (nodes : List ℕ) (ts : List Term) : Type 0 where
  pub there : All (λ n. n < length shapes) nodes
  pub terms : map (term_of shapes) nodes ≡ ts
