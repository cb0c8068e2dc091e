-- Which terms make a fact, and when they are met.
use Rattle.std.specs.Prelude.{ℕ, ◌<◌, Any, List, [], ◌∷◌, length, map, slice_get}
use Rattle.std.specs.List.{All}
use Rattle.std.specs.Option.{option_map_or}
use Rattle.esc_term.specs.declared.term.Term.{Term}
use Rattle.esc_term.specs.declared.formula.Formula.{Formula}
use Rattle.esc_term.specs.declared.formula.Formula.TheVariants.{Eq}
use Rattle.esc_term.specs.Refuted.{Follows}
use Rattle.esc_term.specs.Term.{substituted_term}
use Rattle.esc_nodes.specs.Terms.{term_of}
use Rattle.esc_union.specs.Merges.{SameClass}
use Rattle.esc_egraph.specs.Graph.{Graph, number_of}
use Rattle.esc_fact.specs.Fact.{select}
use Rattle.esc_maps.specs.declared.map_match.MapMatch.TheVariants as map
use Rattle.esc_rounds.specs.Facts.{argument}
use Rattle.esc_rounds.specs.declared.draw.Draw.{Draw}
use Rattle.esc_rounds.specs.declared.draw.Draw.TheVariants.{Witness, Map, Instance}
use Rattle.esc_rounds.specs.declared.kept.Kept.{Kept}

-- the triggers with the terms of the nodes for their variables
abbrev pub triggers_at : Graph → List ℕ → List (List Term) → List (List Term)
triggers_at g ns = map (map (substituted_term (map (term_of g.nodes) ns) 0))

-- the lists of terms that can make a fact, of which one is enough
abbrev pub makers_of : Graph → List Kept → Draw → List (List Term)
makers_of g formulas (Witness f) = [] ∷ []
makers_of g formulas (Map (map.Write w)) = (term_of g.nodes w ∷ []) ∷ []
makers_of g formulas (Map (map.Read w j)) =
    (select (term_of g.nodes w) (term_of g.nodes j) ∷ [])
    ∷ (term_of g.nodes w ∷ select (argument g w 0) (term_of g.nodes j) ∷ []) ∷ []
makers_of g formulas (Instance f ns) =
    option_map_or (λ k. triggers_at g ns k.triggers) (slice_get formulas f) []

-- by the formulas, terms of nodes that stand in one class are equal
abbrev pub ClassesFollow : Graph → List Formula → Type 0
ClassesFollow g known =
    (a b : ℕ) → a < length g.nodes → b < length g.nodes → SameClass (number_of g) a b
    → Follows known (Eq (term_of g.nodes a) (term_of g.nodes b))

-- by the formulas, the term equals that of a node
abbrev pub IsMet : Graph → List Formula → Term → Type 0
IsMet g known t =
    (n : ℕ) × (n < length g.nodes) × Follows known (Eq t (term_of g.nodes n))

-- each term of one of the lists is met
abbrev pub AreMet : Graph → List Formula → List (List Term) → Type 0
AreMet g known = Any (All (IsMet g known))
