-- The facts of draws.
use Rattle.std.specs.Prelude.{ℕ, List, map, slice_get, slice_index}
use Rattle.std.specs.Option.{option_map_or}
use Rattle.esc_term.specs.declared.term.Term.{Term}
use Rattle.esc_nodes.specs.Nodes.{shape_at}
use Rattle.esc_nodes.specs.Terms.{term_of}
use Rattle.esc_egraph.specs.Graph.{Graph}
use Rattle.esc_fact.specs.declared.fact.Fact.{Fact}
use Rattle.esc_fact.specs.declared.fact.Fact.TheVariants as fact
use Rattle.esc_maps.specs.declared.map_match.MapMatch.TheVariants as map
use Rattle.esc_rounds.specs.declared.draw.Draw.{Draw}
use Rattle.esc_rounds.specs.declared.draw.Draw.TheVariants.{Witness, Map, Instance}
use Rattle.esc_rounds.specs.declared.kept.Kept.{Kept}

-- the term of the argument at a place of a node
abbrev pub argument : Graph → ℕ → ℕ → Term
argument g n k = term_of g.nodes (slice_index (shape_at g.nodes n).args k)

-- the fact that is drawn, where these are the quantified formulas
abbrev pub fact_of : Graph → List Kept → Draw → Fact
fact_of g formulas (Witness f) =
    option_map_or (λ k. fact.Skolem k.number k.outer) (slice_get formulas f) (fact.Given 0)
fact_of g formulas (Map (map.Write w)) =
    fact.Map1 (argument g w 0) (argument g w 1) (argument g w 2)
fact_of g formulas (Map (map.Read w j)) =
    fact.Map2 (argument g w 0) (argument g w 1) (argument g w 2) (term_of g.nodes j)
fact_of g formulas (Instance f ns) =
    option_map_or (λ k. fact.Inst k.number k.outer (map (term_of g.nodes) ns))
    (slice_get formulas f) (fact.Given 0)
