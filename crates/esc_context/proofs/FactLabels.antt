-- The labels of facts, after one more fact.
use Rattle.std.proofs.Common.{◌≡◌, ℕ, ◌+◌, ◌<◌, List, [], ◌∷◌, ◌++◌, length, get_or, take, Some}
use Rattle.std.proofs.Common.{ap, sym, subst, true≢false, ◌∙◌}
use Rattle.std.specs.Prelude.{Option, None, IfSome, IsSome}
use Rattle.std.specs.List.{cons_option, flat_map}
use Rattle.std.proofs.lemmas.List.{take_more}
use Rattle.std.proofs.lemmas.List.Elements.{filter_map-append}
use Rattle.esc_term.specs.declared.formula.Formula.{Formula}
use Rattle.esc_term.specs.declared.term.Sym.{Sym}
use Rattle.esc_fact.specs.Fact.{formula_of, formulas_of}
use Rattle.esc_fact.specs.declared.base.Base.{Base}
use Rattle.esc_fact.specs.declared.fact.Fact.{Fact}
use Rattle.esc_sharing.proofs.Lists.{flat_map-push}
use Rattle.esc_context.specs.JudgingInside.{Labels}
use Rattle.esc_context.specs.declared.labelled.Label.{Label}
use Rattle.esc_context.proofs.LabelsBehind.{labels_both}

module _ (base : Base) (facts : List Fact) (i : ℕ) (fact : Fact) (l : i < length facts)
    (at : fact ≡ get_or facts i fact) (f : Formula) (named : formula_of base fact ≡ Some f) where
  formulas_more : formulas_of base (take (i + 1) facts)
      ≡ formulas_of base (take i facts) ++ f ∷ []
  formulas_more =
      ap (formulas_of base) (take_more facts i fact l
      ∙ ap (λ x. take i facts ++ x ∷ []) (sym at))
      ∙ (filter_map-append (formula_of base) (take i facts) (fact ∷ [])
      ∙ ap (λ o. formulas_of base (take i facts) ++ cons_option o []) named)

  pub facts_labelled : (labels_for : Formula → List Sym) (old now new : List Label)
      → Labels old now (flat_map labels_for (formulas_of base (take i facts)))
      → Labels now new (labels_for f)
      → Labels old new (flat_map labels_for (formulas_of base (take (i + 1) facts)))
  facts_labelled labels_for old now new h k =
      subst (Labels old new)
      (sym (ap (flat_map labels_for) formulas_more
      ∙ flat_map-push labels_for (formulas_of base (take i facts)) f))
      (labels_both old now new (flat_map labels_for (formulas_of base (take i facts)))
      (labels_for f) h k)

module _ (base : Base) (facts : List Fact) (i : ℕ) (fact : Fact) (l : i < length facts)
    (at : fact ≡ get_or facts i fact) (labels_for : Formula → List Sym)
    (old now new : List Label)
    (before : Labels old now (flat_map labels_for (formulas_of base (take i facts)))) where
  -- the labels of the formula that the fact names came behind the others
  pub fact_labelled : (o : Option Formula) → formula_of base fact ≡ o → IsSome o
      → IfSome o (λ f. Labels now new (labels_for f))
      → Labels old new (flat_map labels_for (formulas_of base (take (i + 1) facts)))
  fact_labelled (Some f) named some came =
      facts_labelled base facts i fact l at f named labels_for old now new before came
  fact_labelled None named some came = absurd (true≢false (sym some))
