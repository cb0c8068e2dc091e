-- That terms for its free variables leave a formula its quantified formulas, where they stand.
use Rattle.std.proofs.Common.{◌≡◌, ℕ, ◌+◌, true, false, List, [], ◌∷◌, ◌++◌, map}
use Rattle.std.proofs.Common.{refl, ap, sym, subst, ◌∙◌}
use Rattle.std.specs.List.{flat_map}
use denote.Hole.Carrier.{roll}
use Rattle.esc_term.specs.declared.term.Term.{Term}
use Rattle.esc_term.specs.declared.formula.Formula.{Formula}
use Rattle.esc_term.specs.declared.formula.Formula.TheOpen.{Formula-F, Quant-F}
use Rattle.esc_term.specs.declared.formula.Formula.TheViews.{roll-Formula, roll-Quant}
use Rattle.esc_term.specs.declared.formula.Formula.TheFolds.{map-Formula, map-Quant, ind-Formula}
use Rattle.esc_term.specs.declared.formula.Quant.{Quant}
use Rattle.esc_term.specs.Formula.{substituted_to, substituted_quant}
use Rattle.esc_rounds.specs.Origins.{outermost}
use Rattle.esc_term.proofs.FormulaLevels.{substituted_to-True, substituted_to-False}
use Rattle.esc_term.proofs.FormulaLevels.{substituted_to-And, substituted_to-Or}
use Rattle.esc_term.proofs.FormulaLevels.{substituted_to-Not, substituted_to-Implies}
use Rattle.esc_term.proofs.FormulaLevels.{substituted_to-Iff, substituted_to-Forall}
use Rattle.esc_term.proofs.FormulaLevels.{substituted_to-Exists, substituted_to-Eq}
use Rattle.esc_term.proofs.FormulaLevels.{substituted_to-Less, substituted_to-Distinct}
use Rattle.esc_term.proofs.FormulaLevels.{substituted_to-LabelPos, substituted_to-LabelNeg}
use Rattle.esc_term.proofs.FormulaLevels.{substituted_quant-at}
use Rattle.esc_standing.proofs.OutermostLevels.{outermost-And}
use Rattle.esc_standing.proofs.OutermostLevels.{outermost-Or, outermost-Not, outermost-Implies}
use Rattle.esc_standing.proofs.OutermostLevels.{outermost-Iff, outermost-Forall, outermost-Exists}
use Rattle.esc_standing.proofs.OutermostLevels.{outermost-Eq, outermost-Less, outermost-Distinct}
use Rattle.esc_standing.proofs.OutermostLevels.{outermost-LabelPos, outermost-LabelNeg}

module _ (us : List Term) where
  abbrev Same : Formula → Type 0
  Same f = (d : ℕ) → outermost (substituted_to us f d) ≡ outermost f

  abbrev SameQuant : Quant → Type 0
  SameQuant q = Same q.body

  parts_same : (d : ℕ) (es : List ((f : Formula) × Same f))
      → flat_map outermost (map (λ f. substituted_to us f d) (map (λ e. e.0) es))
      ≡ flat_map outermost (map (λ e. e.0) es)
  parts_same d [] = refl
  parts_same d (e ∷ es) =
      ap (λ bs. bs ++ flat_map outermost (map (λ f. substituted_to us f d) (map (λ e. e.0) es)))
      (e.1 d)
      ∙ ap (λ bs. outermost e.0 ++ bs) (parts_same d es)

  both_same : (d : ℕ) (f g : Formula) → Same f → Same g
      → outermost (substituted_to us f d) ++ outermost (substituted_to us g d)
      ≡ outermost f ++ outermost g
  both_same d f g l r =
      ap (λ bs. bs ++ outermost (substituted_to us g d)) (l d) ∙ ap (λ bs. outermost f ++ bs) (r d)

  inside_same : (d : ℕ) (q : Quant) → SameQuant q
      → true ∷ map (λ inside. false) (outermost (substituted_quant us q d).body)
      ≡ true ∷ map (λ inside. false) (outermost q.body)
  inside_same d q body =
      ap (λ f. true ∷ map (λ inside. false) (outermost f))
      (ap (λ r. r.body) (substituted_quant-at us d q))
      ∙ ap (λ bs. true ∷ map (λ inside. false) bs) (body (d + q.count))

  form_at : (y : Formula-F ((f : Formula) × Same f) ((q : Quant) × SameQuant q))
      → Same (roll-Formula (map-Formula ((f : Formula) × Same f) ((q : Quant) × SameQuant q)
      Formula Quant (λ e. e.0) (λ e. e.0) y))
  unfolding roll-Formula roll
  form_at Formula-F.True d = ap outermost (substituted_to-True us d)
  form_at Formula-F.False d = ap outermost (substituted_to-False us d)
  form_at (Formula-F.And es) d =
      ap outermost (substituted_to-And us d (map (λ e. e.0) es)) ∙ outermost-And _
      ∙ parts_same d es ∙ sym (outermost-And _)
  form_at (Formula-F.Or es) d =
      ap outermost (substituted_to-Or us d (map (λ e. e.0) es)) ∙ outermost-Or _
      ∙ parts_same d es ∙ sym (outermost-Or _)
  form_at (Formula-F.Not e) d =
      ap outermost (substituted_to-Not us d e.0) ∙ outermost-Not _ ∙ e.1 d ∙ sym (outermost-Not e.0)
  form_at (Formula-F.Implies l r) d =
      ap outermost (substituted_to-Implies us d l.0 r.0) ∙ outermost-Implies _ _
      ∙ both_same d l.0 r.0 l.1 r.1 ∙ sym (outermost-Implies l.0 r.0)
  form_at (Formula-F.Iff l r) d =
      ap outermost (substituted_to-Iff us d l.0 r.0) ∙ outermost-Iff _ _
      ∙ both_same d l.0 r.0 l.1 r.1 ∙ sym (outermost-Iff l.0 r.0)
  form_at (Formula-F.Forall q) d =
      ap outermost (substituted_to-Forall us d q.0) ∙ outermost-Forall _ ∙ inside_same d q.0 q.1
      ∙ sym (outermost-Forall q.0)
  form_at (Formula-F.Exists q) d =
      ap outermost (substituted_to-Exists us d q.0) ∙ outermost-Exists _ ∙ inside_same d q.0 q.1
      ∙ sym (outermost-Exists q.0)
  form_at (Formula-F.Eq s t) d =
      ap outermost (substituted_to-Eq us d s t) ∙ outermost-Eq _ _ ∙ sym (outermost-Eq s t)
  form_at (Formula-F.Less s t) d =
      ap outermost (substituted_to-Less us d s t) ∙ outermost-Less _ _ ∙ sym (outermost-Less s t)
  form_at (Formula-F.Distinct ts) d =
      ap outermost (substituted_to-Distinct us d ts) ∙ outermost-Distinct _
      ∙ sym (outermost-Distinct ts)
  form_at (Formula-F.LabelPos name e) d =
      ap outermost (substituted_to-LabelPos us d name e.0) ∙ outermost-LabelPos name _ ∙ e.1 d
      ∙ sym (outermost-LabelPos name e.0)
  form_at (Formula-F.LabelNeg name e) d =
      ap outermost (substituted_to-LabelNeg us d name e.0) ∙ outermost-LabelNeg name _ ∙ e.1 d
      ∙ sym (outermost-LabelNeg name e.0)

  quant_at : (y : Quant-F ((f : Formula) × Same f) ((q : Quant) × SameQuant q))
      → SameQuant (roll-Quant (map-Quant ((f : Formula) × Same f) ((q : Quant) × SameQuant q)
      Formula Quant (λ e. e.0) (λ e. e.0) y))
  unfolding roll
  quant_at y = y.body.1

  pub outermost_at_terms : (f : Formula) → Same f
  outermost_at_terms =
      ind-Formula Same SameQuant (λ x y is. subst (λ z. Same (roll-Formula z)) is (form_at y))
      (λ x y is. subst (λ z. SameQuant (roll-Quant z)) is (quant_at y))
