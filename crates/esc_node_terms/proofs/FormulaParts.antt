-- The parts of a closed formula are closed, and its terms are ground.
use Rattle.std.proofs.Common.{◌≡◌, ◌⊎◌, true, inl, inr, List, ap, sym, ◌∙◌}
use Rattle.std.specs.List.{list_all}
use Rattle.std.proofs.lemmas.Bool.{and_parts}
use Rattle.esc_term.specs.declared.term.Term.{Term}
use Rattle.esc_term.specs.declared.term.Sym.{Sym}
use Rattle.esc_term.specs.declared.formula.Formula.{Formula}
use Rattle.esc_term.specs.declared.formula.Formula.TheVariants.{And, Or, Not, Implies, Iff, Eq}
use Rattle.esc_term.specs.declared.formula.Formula.TheVariants.{Less, Distinct, LabelPos, LabelNeg}
use Rattle.esc_term.specs.Term.{binds_term, is_ground}
use Rattle.esc_term.specs.Formula.{is_closed}
use Rattle.esc_term.proofs.FormulaLevels.{binds-And, binds-Or, binds-Not, binds-Implies, binds-Iff}
use Rattle.esc_term.proofs.FormulaLevels.{binds-Eq, binds-Less, binds-Distinct, binds-LabelPos}
use Rattle.esc_term.proofs.FormulaLevels.{binds-LabelNeg}

module _ (f : Formula) (closed : is_closed f ≡ true) where
  pub part_is_closed : (g part : Formula) →
      (f ≡ Not g) ⊎
      (((name : Sym) × (f ≡ LabelPos name g)) ⊎ ((name : Sym) × (f ≡ LabelNeg name g))) → part ≡ g →
      is_closed part ≡ true
  part_is_closed g part (inl e) same = ap is_closed same
      ∙ (sym (binds-Not 0 g) ∙ (ap is_closed (sym e) ∙ closed))
  part_is_closed g part (inr (inl (name, e))) same = ap is_closed same
      ∙ (sym (binds-LabelPos 0 name g) ∙ (ap is_closed (sym e) ∙ closed))
  part_is_closed g part (inr (inr (name, e))) same = ap is_closed same
      ∙ (sym (binds-LabelNeg 0 name g) ∙ (ap is_closed (sym e) ∙ closed))

  pub parts_are_closed : (gs parts : List Formula) → (f ≡ And gs) ⊎ (f ≡ Or gs) → parts ≡ gs →
      list_all is_closed parts ≡ true
  parts_are_closed gs parts (inl e) same = ap (list_all is_closed) same
      ∙ (sym (binds-And 0 gs) ∙ (ap is_closed (sym e) ∙ closed))
  parts_are_closed gs parts (inr e) same = ap (list_all is_closed) same
      ∙ (sym (binds-Or 0 gs) ∙ (ap is_closed (sym e) ∙ closed))

  pub both_are_closed : (g h : Formula) → (f ≡ Implies g h) ⊎ (f ≡ Iff g h) →
      (is_closed g ≡ true) × (is_closed h ≡ true)
  both_are_closed g h (inl e) = and_parts (is_closed g) (is_closed h) (sym (binds-Implies 0 g h)
      ∙ (ap is_closed (sym e) ∙ closed))
  both_are_closed g h (inr e) = and_parts (is_closed g) (is_closed h) (sym (binds-Iff 0 g h)
      ∙ (ap is_closed (sym e) ∙ closed))

  pub both_are_ground : (s t : Term) → (f ≡ Eq s t) ⊎ (f ≡ Less s t) →
      (is_ground s ≡ true) × (is_ground t ≡ true)
  unfolding is_ground
  both_are_ground s t (inl e) = and_parts (binds_term 0 s) (binds_term 0 t) (sym (binds-Eq 0 s t)
      ∙ (ap is_closed (sym e) ∙ closed))
  both_are_ground s t (inr e) = and_parts (binds_term 0 s) (binds_term 0 t) (sym (binds-Less 0 s t)
      ∙ (ap is_closed (sym e) ∙ closed))

  pub places_are_ground : (us ts : List Term) → f ≡ Distinct us → ts ≡ us →
      list_all is_ground ts ≡ true
  unfolding is_ground
  places_are_ground us ts e same = ap (list_all is_ground) same
      ∙ (sym (binds-Distinct 0 us) ∙ (ap is_closed (sym e) ∙ closed))
