-- How deep a fact lies is read from its draw.
use Rattle.std.proofs.Common.{◌≡◌, ℕ, ◌<◌, ◌+◌, IsTrue, List, [], ◌∷◌, length, get_or}
use Rattle.std.proofs.Common.{map, Some, None, refl, ap, sym, subst, ◌∙◌, arith, suc, true≢false}
use Rattle.std.specs.Prelude.{Option, max, slice_get, slice_index}
use Rattle.std.specs.List.{All, fold}
use Rattle.std.specs.Option.{option_and_then, option_map, option_map_or}
use Rattle.std.proofs.lemmas.Option.{get_or_from_slice_get}
use Rattle.esc_term.specs.declared.term.Term.{Term}
use Rattle.esc_nodes.specs.Terms.{term_of}
use Rattle.esc_egraph.specs.Graph.{Graph}
use Rattle.esc_fact.specs.Base.{Quantified, quantified_in}
use Rattle.esc_fact.specs.Depth.{Deep, deep, depth_behind, depth_of_atom, depth_of_quantified}
use Rattle.esc_fact.specs.Depth.{depth_of_term}
use Rattle.esc_fact.specs.Fact.{closed_at, store}
use Rattle.esc_fact.specs.Legal.{HasTerm, is_first}
use Rattle.esc_fact.specs.declared.base.Base.{Base}
use Rattle.esc_fact.specs.declared.fact.Fact.{Fact}
use Rattle.esc_fact.specs.declared.fact.Fact.TheVariants as fact
use Rattle.esc_maps.specs.declared.map_match.MapMatch.TheVariants as map_match
use Rattle.esc_rounds.specs.Branch.{IsKept, closed_with, formula_at, formula_kept}
use Rattle.esc_rounds.specs.declared.draw.Draw.{Draw}
use Rattle.esc_rounds.specs.declared.draw.Draw.TheVariants.{Witness, Map, Instance}
use Rattle.esc_rounds.specs.declared.kept.Kept.{Kept}
use Rattle.esc_rounds.specs.Standing.{IsDrawable}
use Rattle.esc_rounds.proofs.Steps.{get-some}
use Rattle.esc_standing.specs.DrawsInside.{IsBehind, IsDrawOf, IsThere, IsThereOr, depth_drawn}
use Rattle.esc_standing.specs.DrawsInside.{formula_depth}
use Rattle.esc_standing.specs.Surveyed.{drawn_with}

-- ---- places that are there

module _ (g : Graph) (depths : List ℕ) (formulas : List Kept)
    (many : length depths ≡ length g.nodes) where
  within : (n : ℕ) → n < length g.nodes → n < length depths
  within n l = omega (arith, l, many)

  drawable_is_there : (d : Draw) → IsDrawable g formulas d → IsThere depths formulas d
  drawable_is_there (Witness f) l = l
  drawable_is_there (Map (map_match.Write w)) h = within w h.0
  drawable_is_there (Map (map_match.Read w j)) h = (within w h.0, within j h.2)
  drawable_is_there (Instance f ns) h = (h.0, λ k d l. within (get_or ns k d) (h.1 k d l))

  pub draw_is_there : (base : Base) (x : Fact) (draw : Option Draw)
      → IsDrawOf base g formulas x draw → IsThereOr depths formulas draw
  draw_is_there base x None first = tt
  draw_is_there base x (Some d) h = drawable_is_there d h.1

-- ---- depths

quantified_depth : (base : Base) (ds : List Deep) (n : ℕ) (us : List Term)
    → depth_of_quantified base ds n us
    ≡ option_map_or (depth_of_atom ds) (closed_with base n us) 0
quantified_depth base ds n us = go (slice_get (quantified_in base) n)
  where
    go : (o : Option Quantified) → option_map_or (λ q. depth_of_atom ds (closed_at q us)) o 0
        ≡ option_map_or (depth_of_atom ds) (option_map (λ q. closed_at q us) o) 0
    go None = refl
    go (Some q) = refl

module _ (base : Base) (g : Graph) (facts : List Fact) (unset : ℕ) (depths : List ℕ)
    (formulas : List Kept) where
  abbrev Behind : Fact → Option Draw → Type 0
  Behind x draw = IsBehind base g facts unset depths formulas x draw

  formula_is : (f n : ℕ) (us : List Term) → All (IsKept base facts) formulas
      → f < length formulas → closed_with base n us ≡ formula_at base (drawn_with g formulas) f
      → formula_depth formulas f ≡ depth_of_quantified base (deep base facts) n us
  formula_is f n us kept l e =
      let k = get-some formulas f l in
      let is : IsKept base facts k.0 =
      subst (IsKept base facts) (get_or_from_slice_get formulas f k.0 k.0 k.1) (kept f k.0 l) in
      let named : closed_with base n us ≡ Some (closed_at is.q k.0.outer) =
      e ∙ (ap (option_and_then (formula_kept base)) k.1
      ∙ ap (option_map (λ q. closed_at q k.0.outer)) is.numbered) in
      ap (λ o. option_map_or (λ (x : Kept). x.depth) o 0) k.1
      ∙ (is.depth
      ∙ (sym (ap (λ o. option_map_or (depth_of_atom (deep base facts)) o 0) named)
      ∙ sym (quantified_depth base (deep base facts) n us)))

  node_is : (x : Fact) (draw : Option Draw) → Behind x draw → (w : ℕ) (t : Term)
      → w < length g.nodes → term_of g.nodes w ≡ t → HasTerm base facts t
      → slice_index depths w ≡ depth_of_term (deep base facts) t
  node_is x draw b w t l e has =
      b.depths.there w l (subst (HasTerm base facts) (sym e) has)
      ∙ ap (depth_of_term (deep base facts)) e

  nodes_are : (x : Fact) (draw : Option Draw) → Behind x draw → (ns : List ℕ) (ts : List Term)
      → All (λ n. n < length g.nodes) ns → map (term_of g.nodes) ns ≡ ts
      → All (HasTerm base facts) ts
      → map (slice_index depths) ns ≡ map (depth_of_term (deep base facts)) ts
  nodes_are x draw b [] [] there e has = refl
  nodes_are x draw b [] (t ∷ ts) there e has = cc
  nodes_are x draw b (n ∷ ns) [] there e has = cc
  nodes_are x draw b (n ∷ ns) (t ∷ ts) there e has =
      let head : term_of g.nodes n ≡ t = cc in
      let tail : map (term_of g.nodes) ns ≡ ts = cc in
      let first = node_is x draw b n t (there 0 n (omega arith)) head (has 0 t (omega arith)) in
      let rest = nodes_are x draw b ns ts (λ k d l. there (suc k) d (omega (arith, l))) tail
      (λ k d l. has (suc k) d (omega (arith, l))) in
      ap (λ m. m ∷ map (slice_index depths) ns) first
      ∙ ap (λ ms. depth_of_term (deep base facts) t ∷ ms) rest

  none_is : (x : Fact) → IsTrue (is_first x) → 0 ≡ depth_behind base (deep base facts) x
  none_is (fact.Given k) first = refl
  none_is fact.NegGoal first = refl
  none_is (fact.Inst n us ts) first = absurd (true≢false (sym first))
  none_is (fact.Skolem n us) first = absurd (true≢false (sym first))
  none_is (fact.Map1 m i x) first = absurd (true≢false (sym first))
  none_is (fact.Map2 m i x y) first = absurd (true≢false (sym first))

  pub drawn_depth : (x : Fact) (d : Draw) → Behind x (Some d)
      → depth_drawn depths formulas d ≡ depth_behind base (deep base facts) x
  drawn_depth (fact.Given k) d b = absurd b.drawn.0
  drawn_depth fact.NegGoal d b = absurd b.drawn.0
  drawn_depth (fact.Skolem n us) (Witness f) b =
      formula_is f n us b.formulas.kept b.drawn.1 b.drawn.0
  drawn_depth (fact.Skolem n us) (Map (map_match.Write w)) b = absurd b.drawn.0
  drawn_depth (fact.Skolem n us) (Map (map_match.Read w j)) b = absurd b.drawn.0
  drawn_depth (fact.Skolem n us) (Instance f ns) b = absurd b.drawn.0
  drawn_depth (fact.Map1 m i x) (Witness f) b = absurd b.drawn.0
  drawn_depth (fact.Map1 m i x) (Map (map_match.Write w)) b =
      ap (λ n. 1 + n) (node_is _ _ b w (store m i x) b.drawn.0.0 b.drawn.0.1 b.from)
  drawn_depth (fact.Map1 m i x) (Map (map_match.Read w j)) b = absurd b.drawn.0
  drawn_depth (fact.Map1 m i x) (Instance f ns) b = absurd b.drawn.0
  drawn_depth (fact.Map2 m i x y) (Witness f) b = absurd b.drawn.0
  drawn_depth (fact.Map2 m i x y) (Map (map_match.Write w)) b = absurd b.drawn.0
  drawn_depth (fact.Map2 m i x y) (Map (map_match.Read w j)) b =
      let first = node_is _ _ b w (store m i x) b.drawn.0.0 b.drawn.0.2 b.from.0 in
      let second = node_is _ _ b j y b.drawn.0.1 b.drawn.0.3 b.from.1 in
      ap (λ n. 1 + max n (slice_index depths j)) first
      ∙ ap (λ n. 1 + max (depth_of_term (deep base facts) (store m i x)) n) second
  drawn_depth (fact.Map2 m i x y) (Instance f ns) b = absurd b.drawn.0
  drawn_depth (fact.Inst n us ts) (Witness f) b = absurd b.drawn.0
  drawn_depth (fact.Inst n us ts) (Map (map_match.Write w)) b = absurd b.drawn.0
  drawn_depth (fact.Inst n us ts) (Map (map_match.Read w j)) b = absurd b.drawn.0
  drawn_depth (fact.Inst n us ts) (Instance f ns) b =
      let formula = formula_is f n us b.formulas.kept b.drawn.1.0 b.drawn.0.0 in
      let terms = nodes_are _ _ b ns ts b.drawn.0.1 b.drawn.0.2 b.from.1 in
      let least : formula_depth formulas f
      ≡ max 0 (depth_of_quantified base (deep base facts) n us) =
      omega (arith, formula) in
      ap (λ k. 1 + fold max k (map (slice_index depths) ns)) least
      ∙ ap (λ ks. 1 + fold max (max 0 (depth_of_quantified base (deep base facts) n us)) ks) terms
