-- What facts are drawn from, and how deep they lie by it.
use Rattle.std.specs.Prelude.{◌≡◌, ℕ, ◌+◌, ◌<◌, ◌^◌, Any, IsTrue, List, Option, Some, None}
use Rattle.std.specs.Prelude.{length, map, max, slice_get, slice_index}
use Rattle.std.specs.List.{All, fold}
use Rattle.std.specs.Option.{option_map_or}
use Rattle.esc_term.specs.declared.term.Term.{Term}
use Rattle.esc_nodes.specs.Terms.{term_of}
use Rattle.esc_egraph.specs.Graph.{Graph}
use Rattle.esc_fact.specs.Fact.{store}
use Rattle.esc_fact.specs.Legal.{IsDrawnFrom, is_first}
use Rattle.esc_fact.specs.declared.base.Base.{Base}
use Rattle.esc_fact.specs.declared.fact.Fact.{Fact}
use Rattle.esc_fact.specs.declared.fact.Fact.TheVariants as fact
use Rattle.esc_maps.specs.declared.map_match.MapMatch.TheVariants as map
use Rattle.esc_rounds.specs.Branch.{IsDrawn, closed_with, formula_kept}
use Rattle.esc_rounds.specs.Standing.{IsDrawable}
use Rattle.esc_rounds.specs.declared.draw.Draw.{Draw}
use Rattle.esc_rounds.specs.declared.draw.Draw.TheVariants.{Witness, Map, Instance}
use Rattle.esc_rounds.specs.declared.kept.Kept.{Kept}
use Rattle.esc_standing.specs.Surveyed.{AreDepths, AreKept, drawn_with}

-- ---- draws

-- the term is that of a node
abbrev pub HasNode : Graph → Term → Type 0
HasNode g t = (n : ℕ) × (n < length g.nodes) × (term_of g.nodes n ≡ t)

-- the terms from which the fact is drawn have nodes
abbrev pub HasNodes : Graph → Fact → Type 0
HasNodes g (fact.Inst n us ts) = All (HasNode g) ts
HasNodes g (fact.Map1 m i x) = HasNode g (store m i x)
HasNodes g (fact.Map2 m i x j) = HasNode g (store m i x) × HasNode g j
HasNodes g _ = Unit {0}

-- the quantified formula from which the fact is drawn is kept
abbrev pub IsFormulaKept : Base → List Kept → Fact → Type 0
IsFormulaKept base kept (fact.Inst n us ts) =
    Any (λ k. formula_kept base k ≡ closed_with base n us) kept
IsFormulaKept base kept (fact.Skolem n us) =
    Any (λ k. formula_kept base k ≡ closed_with base n us) kept
IsFormulaKept base kept _ = Unit {0}

-- there is no draw of a fact of the base, and there is one of each other fact
abbrev pub IsDrawOf : Base → Graph → List Kept → Fact → Option Draw → Type 0
IsDrawOf base g kept fact None = IsTrue (is_first fact)
IsDrawOf base g kept fact (Some d) =
    IsDrawn base (drawn_with g kept) fact d × IsDrawable g kept d

-- ---- depths

abbrev pub formula_depth : List Kept → ℕ → ℕ
formula_depth formulas f = option_map_or (λ k. k.depth) (slice_get formulas f) 0

abbrev pub depth_drawn : List ℕ → List Kept → Draw → ℕ
depth_drawn depths formulas (Witness f) = formula_depth formulas f
depth_drawn depths formulas (Map (map.Write w)) = 1 + slice_index depths w
depth_drawn depths formulas (Map (map.Read w j)) =
    1 + max (slice_index depths w) (slice_index depths j)
depth_drawn depths formulas (Instance f ns) =
    1 + fold max (formula_depth formulas f) (map (slice_index depths) ns)

-- the formula is kept, and the nodes have depths
abbrev pub IsThere : List ℕ → List Kept → Draw → Type 0
IsThere depths formulas (Witness f) = f < length formulas
IsThere depths formulas (Map (map.Write w)) = w < length depths
IsThere depths formulas (Map (map.Read w j)) = (w < length depths) × (j < length depths)
IsThere depths formulas (Instance f ns) =
    (f < length formulas) × All (λ n. n < length depths) ns

abbrev pub IsThereOr : List ℕ → List Kept → Option Draw → Type 0
IsThereOr depths formulas None = Unit {0}
IsThereOr depths formulas (Some d) = IsThere depths formulas d

-- one more than each depth is still a number of the machine
pub record AreSmall (ds : List ℕ) (ks : List Kept) : Type 0 where
  pub depths : All (λ d. d < 2 ^ 63) ds
  pub formulas : All (λ k. k.depth < 2 ^ 63) ks

-- the fact comes behind these, whose depths and formulas are kept
pub record IsBehind (base : Base) (g : Graph) (facts : List Fact) (unset : ℕ) (ds : List ℕ)
    (ks : List Kept) (fact : Fact) (draw : Option Draw) : Type 0 where
  pub depths : AreDepths base g.nodes facts unset ds
  pub formulas : AreKept base facts ks
  pub drawn : IsDrawOf base g ks fact draw
  pub from : IsDrawnFrom base facts fact
