-- How a branch stands where a round begins, by its nodes.
use Rattle.std.specs.Prelude.{◌≡◌, ℕ, ◌<◌, IsTrue, List, length}
use Rattle.std.specs.List.{All, list_all}
use Rattle.esc_egraph.specs.Congruence.{IsCongruence}
use Rattle.esc_egraph.specs.Graph.{Graph, number_of}
use Rattle.esc_trigger.specs.Laws.{is_trigger}
use Rattle.esc_maps.specs.Maps.{IsWrite}
use Rattle.esc_maps.specs.declared.map_match.MapMatch.TheVariants as map
use Rattle.esc_rounds.specs.declared.branch.Branch.{Branch}
use Rattle.esc_rounds.specs.declared.draw.Draw.{Draw}
use Rattle.esc_rounds.specs.declared.draw.Draw.TheVariants.{Witness, Map, Instance}
use Rattle.esc_rounds.specs.declared.kept.Kept.{Kept}
use Rattle.esc_rounds.specs.declared.kept.Literal.{Literal}

pub record Standing : Type 0 where
  pub graph : Graph
  -- for each node, how deep the first live fact lies in which its term stands
  pub depths : List ℕ
  -- the quantified formulas that stand in live facts
  pub formulas : List Kept
  -- those of them that hold or fail, in order
  pub literals : List Literal

abbrev pub standing_of : Branch → Standing
standing_of b = record {
  graph = b.graph.now;
  depths = b.depths.now;
  formulas = b.formulas.now;
  literals = b.literals.now;
}

-- the nodes of the draw are there
abbrev pub AreThere : Graph → Draw → Type 0
AreThere g (Witness f) = Unit {0}
AreThere g (Map (map.Write w)) = w < length g.nodes
AreThere g (Map (map.Read w j)) = (w < length g.nodes) × (j < length g.nodes)
AreThere g (Instance f ns) = All (λ n. n < length g.nodes) ns

-- the formula and the nodes of the draw are there, and facts about maps are drawn from writes
abbrev pub IsDrawable : Graph → List Kept → Draw → Type 0
IsDrawable g formulas (Witness f) = f < length formulas
IsDrawable g formulas (Map (map.Write w)) = (w < length g.nodes) × IsWrite g w
IsDrawable g formulas (Map (map.Read w j)) =
    (w < length g.nodes) × IsWrite g w × (j < length g.nodes)
IsDrawable g formulas (Instance f ns) =
    (f < length formulas) × All (λ n. n < length g.nodes) ns

-- what a round begins with
pub record IsReady (s : Standing) (live : List Draw) : Type 0 where
  pub closed : IsCongruence s.graph.nodes (number_of s.graph)
  pub depths : length s.depths ≡ length s.graph.nodes
  pub triggers : All (λ k. IsTrue (list_all (is_trigger k.count) k.triggers)) s.formulas
  pub literals : All (λ l. l.formula < length s.formulas) s.literals
  -- what the live facts besides those of the base are drawn from
  pub drawable : All (IsDrawable s.graph s.formulas) live
