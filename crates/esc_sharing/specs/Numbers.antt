-- The arithmetic nodes of a theory, each beside its term, and what the theory may make of them.
use Rattle.std.specs.Prelude.{◌≡◌, ℕ, ◌<◌, ◌==◌, List, [], ◌∷◌, ◌++◌, map, if◌then◌else◌}
use Rattle.std.specs.Prelude.{slice_index_or}
use Rattle.std.specs.List.{All, Contains, filter, flat_map, list_any}
use Rattle.esc_term.specs.declared.term.Term.{Term}
use Rattle.esc_linear.specs.Forms.{form}
use Rattle.esc_egraph.specs.Graph.{Graph}
use Rattle.esc_cover.specs.Assignment.{Gap}
use Rattle.esc_cover.specs.Classes.{has}
use Rattle.esc_simplex.specs.Senses.{Sense, gap_of, term}
use Rattle.esc_sharing.specs.Nodes.{node_count, node_term}

abbrev pub nodes_of : List (ℕ × Term) → List ℕ
nodes_of numbers = map (λ number. number.0) numbers

-- the terms of the arithmetic nodes
abbrev pub number_terms : List (ℕ × Term) → List Term
number_terms numbers = map (λ number. number.1) numbers

-- the arithmetic node at a place of their list
abbrev pub number_node : List (ℕ × Term) → ℕ → ℕ
number_node numbers place = slice_index_or (nodes_of numbers) place 0

abbrev pub IsNumber : List (ℕ × Term) → ℕ → Type 0
IsNumber numbers a = Contains (nodes_of numbers) a

-- the node with its term at the end, unless it is there
abbrev pub with_number : List (ℕ × Term) → ℕ → Term → List (ℕ × Term)
with_number numbers a t =
    if list_any (λ number. number.0 == a) numbers then numbers else numbers ++ (a, t) ∷ []

-- each is a node of the graph, and has there this term
abbrev pub AreNumbersOf : Graph → List (ℕ × Term) → Type 0
AreNumbersOf g numbers =
    All (λ number. (number.0 < node_count g) × (node_term g number.0 ≡ number.1)) numbers

-- ---- what a call may name and make

-- the terms of two nodes
abbrev pub pair_terms : Graph → ℕ × ℕ → List Term
pair_terms g pair = node_term g pair.0 ∷ node_term g pair.1 ∷ []

-- those of the terms that are arithmetic
abbrev pub arithmetic_among : List (ℕ × Term) → List Term → List Term
arithmetic_among numbers terms = filter (has (number_terms numbers)) terms

-- a gap of two of the terms
pub record IsGapOf (terms : List Term) (g : Gap) : Type 0 where
  pub upper : Contains terms g.upper
  pub lower : Contains terms g.lower

-- the terms, and those that their forms are made of
abbrev pub with_parts : List Term → List Term
with_parts terms = flat_map (λ t. t ∷ map (λ p. p.term) (form t).parts) terms

abbrev pub MayStandFor : List Term → Sense → Type 0
MayStandFor terms (term t) = Contains (with_parts terms) t
MayStandFor terms (gap_of g) = IsGapOf terms g

-- entries were added behind the others, for these terms and their gaps
pub record AddsMade (old new : List Sense) (terms : List Term) : Type 0 where
  pub more : List Sense
  pub made : new ≡ old ++ more
  pub may : All (MayStandFor terms) more
