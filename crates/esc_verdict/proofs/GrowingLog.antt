-- A legal log grows by a fact that may follow some of its facts.
use Rattle.std.proofs.Common.{◌≡◌, List, [], ◌∷◌, ◌++◌, refl, ap, subst, sym, ◌∙◌, append_assoc}
use Rattle.std.proofs.Common.{inl, inr}
use Rattle.std.specs.List.{All, Contains, flat_map}
use Rattle.std.proofs.lemmas.List.Elements.{All-contains, All-push, Contains-get_or, Contains-push}
use Rattle.std.proofs.lemmas.List.Quantifiers.{all_pairs_push}
use Rattle.esc_term.specs.declared.formula.Formula.{Formula}
use Rattle.esc_term.specs.Formula.{terms_of}
use Rattle.esc_term.proofs.Members.{Contains-flat_map, Contains-in_flat_map}
use Rattle.esc_cover.specs.Atoms.{atoms_of}
use Rattle.esc_fact.specs.Fact.{IsFact, formulas_of}
use Rattle.esc_fact.specs.Legal.{IsDrawnFrom, first_facts}
use Rattle.esc_fact.specs.declared.base.Base.{Base}
use Rattle.esc_fact.specs.declared.fact.Fact.{Fact}
use Rattle.esc_fact.specs.declared.fact.Fact.TheVariants as fact
use Rattle.esc_outcome.proofs.Branches.{push_parts}
use Rattle.esc_verdict.specs.RoundLaws.{LogMayGrow}
use Rattle.esc_verdict.proofs.MatchedFacts.{formulas_among}

-- ---- drawn from more facts

module _ (base : Base) (facts log : List Fact) (among : All (Contains log) facts) where
  stands_more : {X : Type 0} (f : Formula → List X) (x : X)
      → Contains (flat_map f (formulas_of base facts)) x
      → Contains (flat_map f (formulas_of base log)) x
  stands_more f x h =
      let found = Contains-flat_map f (formulas_of base facts) x h in
      Contains-in_flat_map f (formulas_of base log) found.0 x
      (All-contains (Contains (formulas_of base log)) (formulas_of base facts) found.0
      (formulas_among base facts log among) found.1) found.2

  drawn_from_more : (f : Fact) → IsDrawnFrom base facts f → IsDrawnFrom base log f
  drawn_from_more (fact.Given k) h = h
  drawn_from_more fact.NegGoal h = h
  drawn_from_more (fact.Inst number outer terms) h = (
    (h.0.0, h.0.1, stands_more atoms_of _ h.0.2),
    λ k d below. stands_more terms_of _ (h.1 k d below),
  )
  drawn_from_more (fact.Skolem number outer) h = (h.0, h.1, stands_more atoms_of _ h.2)
  drawn_from_more (fact.Map1 m i x) h = stands_more terms_of _ h
  drawn_from_more (fact.Map2 m i x j) h = (stands_more terms_of _ h.0, stands_more terms_of _ h.1)

-- ---- the log

pub log_may_grow : LogMayGrow
log_may_grow base log facts f legal among longer new = record {
  more = legal.more ++ f ∷ [];
  begins = ap (λ fs. fs ++ f ∷ []) legal.begins
      ∙ append_assoc (first_facts base) legal.more (f ∷ []);
  differ = all_pairs_push (λ a b. a ≡ b → ⊥) log f legal.differ (λ k d below same.
      new (subst (Contains log) same (Contains-get_or log k d below)));
  are_facts = All-push (IsFact base) log f legal.are_facts
      (All-contains (IsFact base) (facts ++ f ∷ []) f longer.are_facts (Contains-push facts f));
  drawn = λ before after g e. elim (push_parts log before after f g e) [
    | inl last ↦
        subst (λ front. IsDrawnFrom base front g) (sym last.2)
        (subst (IsDrawnFrom base log) (sym last.1)
        (drawn_from_more base facts log among f (longer.drawn facts [] f refl)))
    | inr early ↦ legal.drawn before early.0 g early.1
  ];
}
