-- The labels that are told of a formula, by its form.
use Rattle.std.proofs.Common.{◌≡◌, List, [], ◌++◌, ◌∙◌}
use Rattle.std.specs.List.{flat_map}
use denote.Hole.Carrier.{roll}
use Rattle.esc_term.specs.declared.term.Sym.{Sym}
use Rattle.esc_term.specs.declared.term.Term.{Term}
use Rattle.esc_term.specs.declared.formula.Formula.{Formula}
use Rattle.esc_term.specs.declared.formula.Formula.TheVariants.{True, False, And, Or, Not}
use Rattle.esc_term.specs.declared.formula.Formula.TheVariants.{Implies, Iff, Forall, Exists}
use Rattle.esc_term.specs.declared.formula.Formula.TheVariants.{Eq, Less, Distinct}
use Rattle.esc_term.specs.declared.formula.Formula.TheVariants.{LabelPos, LabelNeg}
use Rattle.esc_term.specs.declared.formula.Formula.TheOpen.{Formula-F}
use Rattle.esc_term.specs.declared.formula.Formula.TheViews.{roll-Formula}
use Rattle.esc_term.specs.declared.formula.Formula.TheFolds.{para-roll-Formula}
use Rattle.esc_term.specs.declared.formula.Quant.{Quant}
use Rattle.esc_term.specs.declared.formula.Item.{Item}
use Rattle.esc_term.proofs.Pairs.{flat_map-pairs}
use Rattle.esc_cover.specs.Cover.{cover}
use Rattle.esc_outcome.specs.Labels.{labels_in, labels_step, told_if}

module _ (literals : List Item) (classes : List (List Term)) where
  pub labels_in-True : labels_in literals classes True
      ≡ []
  unfolding labels_in roll-Formula roll
  labels_in-True = para-roll-Formula (List Sym) Unit
      (labels_step literals classes) (λ quant. tt) Formula-F.True

  pub labels_in-False : labels_in literals classes False
      ≡ []
  unfolding labels_in roll-Formula roll
  labels_in-False = para-roll-Formula (List Sym) Unit
      (labels_step literals classes) (λ quant. tt) Formula-F.False

  pub labels_in-And : (fs : List Formula) → labels_in literals classes (And fs)
      ≡ flat_map (labels_in literals classes) fs
  unfolding labels_in roll-Formula roll
  labels_in-And fs = para-roll-Formula (List Sym) Unit
      (labels_step literals classes) (λ quant. tt) (Formula-F.And fs)
      ∙ flat_map-pairs (labels_in literals classes) fs

  pub labels_in-Or : (fs : List Formula) → labels_in literals classes (Or fs)
      ≡ flat_map (labels_in literals classes) fs
  unfolding labels_in roll-Formula roll
  labels_in-Or fs = para-roll-Formula (List Sym) Unit
      (labels_step literals classes) (λ quant. tt) (Formula-F.Or fs)
      ∙ flat_map-pairs (labels_in literals classes) fs

  pub labels_in-Not : (f : Formula) → labels_in literals classes (Not f)
      ≡ labels_in literals classes f
  unfolding labels_in roll-Formula roll
  labels_in-Not f = para-roll-Formula (List Sym) Unit
      (labels_step literals classes) (λ quant. tt) (Formula-F.Not f)

  pub labels_in-Implies : (f g : Formula) → labels_in literals classes (Implies f g)
      ≡ labels_in literals classes f ++ labels_in literals classes g
  unfolding labels_in roll-Formula roll
  labels_in-Implies f g = para-roll-Formula (List Sym) Unit
      (labels_step literals classes) (λ quant. tt) (Formula-F.Implies f g)

  pub labels_in-Iff : (f g : Formula) → labels_in literals classes (Iff f g)
      ≡ labels_in literals classes f ++ labels_in literals classes g
  unfolding labels_in roll-Formula roll
  labels_in-Iff f g = para-roll-Formula (List Sym) Unit
      (labels_step literals classes) (λ quant. tt) (Formula-F.Iff f g)

  pub labels_in-Forall : (q : Quant) → labels_in literals classes (Forall q)
      ≡ []
  unfolding labels_in roll-Formula roll
  labels_in-Forall q = para-roll-Formula (List Sym) Unit
      (labels_step literals classes) (λ quant. tt) (Formula-F.Forall q)

  pub labels_in-Exists : (q : Quant) → labels_in literals classes (Exists q)
      ≡ []
  unfolding labels_in roll-Formula roll
  labels_in-Exists q = para-roll-Formula (List Sym) Unit
      (labels_step literals classes) (λ quant. tt) (Formula-F.Exists q)

  pub labels_in-Eq : (s t : Term) → labels_in literals classes (Eq s t)
      ≡ []
  unfolding labels_in roll-Formula roll
  labels_in-Eq s t = para-roll-Formula (List Sym) Unit
      (labels_step literals classes) (λ quant. tt) (Formula-F.Eq s t)

  pub labels_in-Less : (s t : Term) → labels_in literals classes (Less s t)
      ≡ []
  unfolding labels_in roll-Formula roll
  labels_in-Less s t = para-roll-Formula (List Sym) Unit
      (labels_step literals classes) (λ quant. tt) (Formula-F.Less s t)

  pub labels_in-Distinct : (ts : List Term) → labels_in literals classes (Distinct ts)
      ≡ []
  unfolding labels_in roll-Formula roll
  labels_in-Distinct ts = para-roll-Formula (List Sym) Unit
      (labels_step literals classes) (λ quant. tt) (Formula-F.Distinct ts)

  pub labels_in-LabelPos : (name : Sym) (f : Formula) → labels_in literals classes (LabelPos name f)
      ≡ told_if (cover literals classes f).holds name (labels_in literals classes f)
  unfolding labels_in roll-Formula roll
  labels_in-LabelPos name f = para-roll-Formula (List Sym) Unit
      (labels_step literals classes) (λ quant. tt) (Formula-F.LabelPos name f)

  pub labels_in-LabelNeg : (name : Sym) (f : Formula) → labels_in literals classes (LabelNeg name f)
      ≡ told_if (cover literals classes f).fails name (labels_in literals classes f)
  unfolding labels_in roll-Formula roll
  labels_in-LabelNeg name f = para-roll-Formula (List Sym) Unit
      (labels_step literals classes) (λ quant. tt) (Formula-F.LabelNeg name f)
