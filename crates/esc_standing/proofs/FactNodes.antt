-- What a fact is drawn from has nodes, and its formula is kept.
use Rattle.std.proofs.Common.{◌≡◌, ℕ, Bool, true, false, List, [], ◌∷◌, ◌++◌}
use Rattle.std.proofs.Common.{if◌then◌else◌, get_or, Some, None, refl, ap, sym, subst, ◌∙◌, arith}
use Rattle.std.proofs.Common.{pos}
use Rattle.std.specs.Prelude.{Any, IsSome, Option, slice_get}
use Rattle.std.specs.List.{Contains, flat_map, list_all}
use Rattle.std.specs.Option.{option_map}
use Rattle.std.proofs.lemmas.Bool.{and_parts, and_from}
use Rattle.std.proofs.lemmas.List.{get_or_default}
use Rattle.std.proofs.lemmas.List.Elements.{Contains-get_or}
use Rattle.std.proofs.lemmas.List.Folds.{list_all-append}
use Rattle.esc_term.specs.Formula.{substituted, substituted_quant, terms_of}
use Rattle.esc_term.specs.Term.{is_ground, truth_term}
use Rattle.esc_term.specs.declared.term.Head.TheVariants.{Name}
use Rattle.esc_term.specs.declared.term.Term.{Term}
use Rattle.esc_term.specs.declared.term.Term.TheVariants.{Num}
use denote.Hole.Carrier.{roll}
use Rattle.esc_term.specs.declared.formula.Quant.{Quant}
use Rattle.esc_term.specs.declared.formula.Formula.TheOpen.{Formula-F}
use Rattle.esc_term.specs.declared.formula.Formula.TheVariants.{Forall, Exists}
use Rattle.esc_term.specs.declared.formula.Formula.TheViews.{out-Formula, out-roll-Formula}
use Rattle.esc_term.specs.declared.formula.Formula.TheViews.{roll-Formula}
use Rattle.esc_term.proofs.FormulaLevels.{substituted_to-Exists, substituted_to-Forall}
use Rattle.esc_term.proofs.GroundTerms.{is_ground-App}
use Rattle.esc_term.proofs.Members.{Contains-later}
use Rattle.esc_cover.specs.Classes.{active_terms}
use Rattle.esc_cover.proofs.ActiveTerms.{active}
use Rattle.esc_cover.proofs.TestLemmas.{all_at}
use Rattle.esc_nodes.specs.Terms as nodes
use Rattle.esc_nodes.proofs.NodeTerms.{count_terms}
use Rattle.esc_egraph.specs.Graph.{Graph}
use Rattle.esc_fact.specs.Base.{Quantified, quantified_in}
use Rattle.esc_fact.specs.Fact.{IsFact, closed_at, formulas_of, instance_of, skolem_of, store}
use Rattle.esc_fact.specs.Legal.{HasQuantified, HasTerm, IsDrawnFrom}
use Rattle.esc_fact.specs.declared.base.Base.{Base}
use Rattle.esc_fact.specs.declared.fact.Fact.{Fact}
use Rattle.esc_fact.specs.declared.fact.Fact.TheVariants as fact
use Rattle.esc_rounds.specs.Branch.{closed_with, formula_kept, is_quantified_form}
use Rattle.esc_rounds.specs.declared.kept.Kept.{Kept}
use Rattle.esc_rounds.proofs.LegalRounds.{term_more}
use Rattle.esc_standing.specs.DrawsInside.{HasNode, HasNodes, IsFormulaKept}
use Rattle.esc_standing.specs.Surveyed.{AreKept}

-- ---- nodes

store_ground : (m i x : Term) → list_all is_ground (m ∷ i ∷ x ∷ []) ≡ true
    → is_ground (store m i x) ≡ true
store_ground m i x all = is_ground-App (Name (record { 0 = 2 })) (m ∷ i ∷ x ∷ []) ∙ all

module _ (base : Base) (all facts more : List Fact) (is_whole : all ≡ facts ++ more) (g : Graph)
    (nodes_are : nodes.terms_of g.nodes ≡ active_terms (formulas_of base all)) where
  has_node : (t : Term) → HasTerm base facts t → is_ground t ≡ true → HasNode g t
  unfolding nodes.term_of
  has_node t h ground =
      let later : HasTerm base all t =
      subst (λ xs. HasTerm base xs t) (sym is_whole) (term_more base facts more t h) in
      let c : Contains (nodes.terms_of g.nodes) t =
      subst (λ ts. Contains ts t) (sym nodes_are) (active (formulas_of base all) t
      (Contains-later truth_term (flat_map terms_of (formulas_of base all)) t later) ground) in (
        c.0,
        (let count = count_terms g.nodes in let l = c.1 in omega (arith, count, l)),
        get_or_default (nodes.terms_of g.nodes) c.0 (Num (pos 0)) t c.1 ∙ c.2,
      )

  pub fact_nodes : (x : Fact) → IsFact base x → IsDrawnFrom base facts x → HasNodes g x
  fact_nodes (fact.Given k) is from = tt
  fact_nodes fact.NegGoal is from = tt
  fact_nodes (fact.Skolem n us) is from = tt
  fact_nodes (fact.Inst n us ts) is from = λ k d l.
      let grounds = (and_parts _ _ (sym (list_all-append is_ground us ts) ∙ is.grounded)).1 in
      has_node (get_or ts k d) (from.1 k d l)
      (all_at is_ground ts (get_or ts k d) grounds (Contains-get_or ts k d l))
  fact_nodes (fact.Map1 m i x) is from =
      has_node (store m i x) from (store_ground m i x is.grounded)
  fact_nodes (fact.Map2 m i x j) is from =
      let first = and_parts (is_ground m) _ is.grounded in
      let second = and_parts (is_ground i) _ first.1 in
      let third = and_parts (is_ground x) _ second.1 in
      let fourth = and_parts (is_ground j) _ third.1 in (
        has_node (store m i x) from.0 (store_ground m i x
            (and_from _ _ first.0 (and_from _ _ second.0 (and_from _ _ third.0 refl)))),
        has_node j from.1 fourth.0,
      )

-- ---- formulas

forall_form : (q : Quant) → is_quantified_form (out-Formula (Forall q)) ≡ true
unfolding roll-Formula roll
forall_form q = ap is_quantified_form (out-roll-Formula (Formula-F.Forall q))

exists_form : (q : Quant) → is_quantified_form (out-Formula (Exists q)) ≡ true
unfolding roll-Formula roll
exists_form q = ap is_quantified_form (out-roll-Formula (Formula-F.Exists q))

quantified_form : (q : Quantified) (us : List Term)
    → is_quantified_form (out-Formula (closed_at q us)) ≡ true
quantified_form q us = go q.universal refl
  where
    go : (u : Bool) → q.universal ≡ u → is_quantified_form (out-Formula (closed_at q us)) ≡ true
    go true e =
        ap (λ f. is_quantified_form (out-Formula f))
        (ap (λ v. substituted us (if v then Forall q.quant else Exists q.quant)) e
        ∙ substituted_to-Forall us 0 q.quant)
        ∙ forall_form (substituted_quant us q.quant 0)
    go false e =
        ap (λ f. is_quantified_form (out-Formula f))
        (ap (λ v. substituted us (if v then Forall q.quant else Exists q.quant)) e
        ∙ substituted_to-Exists us 0 q.quant)
        ∙ exists_form (substituted_quant us q.quant 0)

module _ (base : Base) (facts : List Fact) (kept : List Kept) (are : AreKept base facts kept)
  where
    quantified_kept : (n : ℕ) (us : List Term) → HasQuantified base facts n us
        → Any (λ k. formula_kept base k ≡ closed_with base n us) kept
    quantified_kept n us has =
        subst (λ o. Any (λ k. formula_kept base k ≡ o) kept)
        (sym (ap (option_map (λ q. closed_at q us)) has.1))
        (are.all (closed_at has.0 us) (quantified_form has.0 us) has.2)

    pub fact_kept : (x : Fact) → IsDrawnFrom base facts x → IsFormulaKept base kept x
    fact_kept (fact.Given k) from = tt
    fact_kept fact.NegGoal from = tt
    fact_kept (fact.Inst n us ts) from = quantified_kept n us from.0
    fact_kept (fact.Skolem n us) from = quantified_kept n us from
    fact_kept (fact.Map1 m i x) from = tt
    fact_kept (fact.Map2 m i x j) from = tt

-- a fact about a witness may be made where one about an instance is
pub skolem_fact : (base : Base) (n : ℕ) (us ts : List Term) → IsFact base (fact.Inst n us ts)
    → IsFact base (fact.Skolem n us)
skolem_fact base n us ts is = record {
  named = go (slice_get (quantified_in base) n) is.named;
  counts = λ q e. (is.counts q e).0;
  grounded = (and_parts _ _ (sym (list_all-append is_ground us ts) ∙ is.grounded)).0;
}
  where
    go : (o : Option Quantified) → IsSome (option_map (λ q. instance_of q us ts) o)
        → IsSome (option_map (λ q. skolem_of n q us) o)
    go None is = is
    go (Some q) is = is
