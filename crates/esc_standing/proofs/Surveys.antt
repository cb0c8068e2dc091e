-- How a branch stands by what is found in all its live facts.
use Rattle.std.proofs.Common.{◌≡◌, ℕ, ◌<◌, ◌-◌, List, [], ◌∷◌, length, refl}
use Rattle.std.proofs.Common.{ap, subst, arith, suc, zero}
use Rattle.std.specs.Prelude.{slice_index}
use Rattle.std.specs.List.{All, AllZip, filter}
use Rattle.esc_term.proofs.Members.{Contains-none}
use Rattle.esc_term.specs.declared.formula.Item.{Item}
use Rattle.esc_cover.specs.Classes.{active_terms}
use Rattle.esc_nodes.specs.Terms.{term_of, terms_of}
use Rattle.esc_egraph.specs.Congruence.{IsCongruence}
use Rattle.esc_egraph.specs.Graph.{Graph, IsGraph, number_of}
use Rattle.esc_fact.specs.Fact.{formulas_of}
use Rattle.esc_fact.specs.Legal.{HasTerm, IsClosedBase, made_facts}
use Rattle.esc_fact.specs.declared.base.Base.{Base}
use Rattle.esc_fact.specs.declared.fact.Fact.{Fact}
use Rattle.esc_fact.specs.declared.fact.Fact.TheVariants as fact
use Rattle.esc_maps.specs.declared.map_match.MapMatch.TheVariants as map_match
use Rattle.esc_rounds.specs.Branch.{IsDrawn, IsLiteralOf, IsStanding, is_quantified}
use Rattle.esc_rounds.specs.Standing.{IsReady, Standing}
use Rattle.esc_rounds.specs.declared.draw.Draw.{Draw}
use Rattle.esc_rounds.specs.declared.draw.Draw.TheVariants.{Witness, Map, Instance}
use Rattle.esc_rounds.specs.declared.kept.Literal.{Literal}
use Rattle.esc_standing.specs.Formulas.{KeptHaveTriggers}
use Rattle.esc_standing.specs.Literals.{IsKeptLiteral}
use Rattle.esc_standing.specs.Standing.{standing_in}
use Rattle.esc_standing.specs.SurveyInside.{IsFound, facts_at}
use Rattle.esc_standing.specs.Surveyed.{drawn_with}
use Rattle.esc_standing.specs.declared.survey.Found.{Found}
use Rattle.esc_standing.specs.declared.survey.Survey.{Survey}
use Rattle.esc_standing.proofs.DeepFacts.{term_bound}
use Rattle.esc_standing.proofs.KeepingFacts.{zip_weaker}
use Rattle.esc_standing.proofs.LiveFacts.{count_at}

-- ---- a draw is read in the same way by all standings of a graph and formulas

module _ (base : Base) (s : Standing) where
  drawn_standing : (x : Fact) (d : Draw) → IsDrawn base (drawn_with s.graph s.formulas) x d
      → IsDrawn base s x d
  drawn_standing (fact.Given k) d drawn = absurd drawn
  drawn_standing fact.NegGoal d drawn = absurd drawn
  drawn_standing (fact.Skolem n us) (Witness f) drawn = drawn
  drawn_standing (fact.Skolem n us) (Map (map_match.Write w)) drawn = absurd drawn
  drawn_standing (fact.Skolem n us) (Map (map_match.Read w j)) drawn = absurd drawn
  drawn_standing (fact.Skolem n us) (Instance f ns) drawn = absurd drawn
  drawn_standing (fact.Map1 m i x) (Witness f) drawn = absurd drawn
  drawn_standing (fact.Map1 m i x) (Map (map_match.Write w)) drawn = drawn
  drawn_standing (fact.Map1 m i x) (Map (map_match.Read w j)) drawn = absurd drawn
  drawn_standing (fact.Map1 m i x) (Instance f ns) drawn = absurd drawn
  drawn_standing (fact.Map2 m i x y) (Witness f) drawn = absurd drawn
  drawn_standing (fact.Map2 m i x y) (Map (map_match.Write w)) drawn = absurd drawn
  drawn_standing (fact.Map2 m i x y) (Map (map_match.Read w j)) drawn = drawn
  drawn_standing (fact.Map2 m i x y) (Instance f ns) drawn = absurd drawn
  drawn_standing (fact.Inst n us ts) (Witness f) drawn = absurd drawn
  drawn_standing (fact.Inst n us ts) (Map (map_match.Write w)) drawn = absurd drawn
  drawn_standing (fact.Inst n us ts) (Map (map_match.Read w j)) drawn = absurd drawn
  drawn_standing (fact.Inst n us ts) (Instance f ns) drawn = drawn

zip_tells : {A B : Type 0} (R : A → B → Type 0) (P : B → Type 0) (xs : List A) (ys : List B)
    → ((x : A) (y : B) → R x y → P y) → AllZip R xs ys → All P ys
zip_tells R P [] [] tells zip k d l = absurd (omega (arith, l))
zip_tells R P [] (y ∷ ys) tells zip k d l = absurd zip
zip_tells R P (x ∷ xs) [] tells zip k d l = absurd zip
zip_tells R P (x ∷ xs) (y ∷ ys) tells zip zero d l = tells x y zip.0
zip_tells R P (x ∷ xs) (y ∷ ys) tells zip (suc k) d l =
    zip_tells R P xs ys tells zip.1 k d (omega (arith, l))

-- ---- all live facts

module _ (base : Base) (g : Graph) (log : List Fact) (live : List ℕ) (found : Found)
    (is : IsFound base g (facts_at log live) (length live) found) where
  abbrev facts : List Fact
  facts = facts_at log live

  -- what is there is less deep than what is unset
  less_deep : (m : ℕ) → m < length g.nodes → HasTerm base facts (term_of g.nodes m)
      → slice_index found.depths m < length live
  less_deep m l has = go facts refl
    where
      go : (xs : List Fact) → facts ≡ xs → slice_index found.depths m < length live
      go [] e =
          absurd (Contains-none (term_of g.nodes m)
          (subst (λ ys. HasTerm base ys (term_of g.nodes m)) e has))
      go (x ∷ xs) e =
          let many : length facts ≡ suc (length xs) = ap length e in
          let few = count_at log live in
          let at = is.depths.there m l has in
          let bound = term_bound base facts (length facts - 1) (term_of g.nodes m) is.shallow in
          omega (arith, many, few, at, bound)

  module _ (literals : List Literal) (items : List Item)
      (zip : AllZip (IsKeptLiteral base found.formulas.kept) (filter is_quantified items) literals)
    where
      abbrev surveyed : Survey
      surveyed = record {
        depths = found.depths;
        formulas = found.formulas;
        literals = literals;
        live = found.live;
      }

      pub standing_is : IsGraph g → terms_of g.nodes ≡ active_terms (formulas_of base facts)
          → IsStanding base facts items (standing_in g surveyed) found.live
      standing_is graph nodes = record {
        graph = graph;
        nodes = nodes;
        depths = is.depths.there;
        bare = λ n m l h not has.
            let unset = is.depths.bare n l not in
            let less = less_deep m h has in
            omega (arith, unset, less);
        formulas = is.kept.kept;
        differ = is.kept.differ;
        literals = zip_weaker (IsKeptLiteral base found.formulas.kept)
            (IsLiteralOf base (standing_in g surveyed)) (filter is_quantified items) literals
            (λ item literal there h. (h.0, h.1)) zip;
        drawn = zip_weaker (IsDrawn base (drawn_with g found.formulas.kept))
            (IsDrawn base (standing_in g surveyed)) (made_facts facts) found.live
            (λ x d there h. drawn_standing base (standing_in g surveyed) x d h) is.drawn;
      }

      pub ready_is : KeptHaveTriggers → IsClosedBase base → IsCongruence g.nodes (number_of g)
          → IsReady (standing_in g surveyed) found.live
      ready_is triggers closed congruence = record {
        closed = congruence;
        depths = is.depths.many;
        triggers = triggers base facts found.formulas.kept closed is.kept.kept;
        literals = zip_tells (IsKeptLiteral base found.formulas.kept)
            (λ literal. literal.formula < length found.formulas.kept) (filter is_quantified items)
            literals (λ item literal h. h.2) zip;
        drawable = is.drawable;
      }
