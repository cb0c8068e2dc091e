-- The quantified atoms of a formula with terms for its free variables.
use Rattle.std.proofs.Common.{◌≡◌, ℕ, List, [], ◌∷◌, ◌++◌, map}
use Rattle.std.proofs.Common.{refl, sym, ap, subst, ◌∙◌}
use Rattle.std.proofs.lemmas.List.{map-append}
use Rattle.std.proofs.lemmas.List.Elements.{filter-append}
use Rattle.std.specs.List.{filter, flat_map}
use denote.Hole.Carrier.{roll}
use Rattle.esc_term.specs.declared.term.Term.{Term}
use Rattle.esc_term.specs.declared.formula.Formula.{Formula}
use Rattle.esc_term.specs.declared.formula.Formula.TheVariants.{Forall, Exists, Eq, Less}
use Rattle.esc_term.specs.declared.formula.Formula.TheVariants.{Distinct}
use Rattle.esc_term.specs.declared.formula.Formula.TheOpen.{Formula-F}
use Rattle.esc_term.specs.declared.formula.Formula.TheViews.{out-Formula}
use Rattle.esc_term.specs.declared.formula.Formula.TheViews.{roll-Formula}
use Rattle.esc_term.specs.declared.formula.Formula.TheFolds.{map-Formula, ind-Formula}
use Rattle.esc_term.specs.declared.formula.Quant.{Quant}
use Rattle.esc_term.specs.Formula.{substituted_to, substituted_quant}
use Rattle.esc_term.proofs.FormulaLevels.{substituted_to-True, substituted_to-False}
use Rattle.esc_term.proofs.FormulaLevels.{substituted_to-And, substituted_to-Or, substituted_to-Not}
use Rattle.esc_term.proofs.FormulaLevels.{substituted_to-Implies, substituted_to-Iff}
use Rattle.esc_term.proofs.FormulaLevels.{substituted_to-Forall, substituted_to-Exists}
use Rattle.esc_term.proofs.FormulaLevels.{substituted_to-Eq, substituted_to-Less}
use Rattle.esc_term.proofs.FormulaLevels.{substituted_to-Distinct, substituted_to-LabelPos}
use Rattle.esc_term.proofs.FormulaLevels.{substituted_to-LabelNeg}
use Rattle.esc_cover.specs.Atoms.{atoms_of, pair_equations}
use Rattle.esc_cover.proofs.AtomsLevels.{atoms_of-True, atoms_of-False, atoms_of-And, atoms_of-Or}
use Rattle.esc_cover.proofs.AtomsLevels.{atoms_of-Not, atoms_of-Implies, atoms_of-Iff, atoms_of-Eq}
use Rattle.esc_cover.proofs.AtomsLevels.{atoms_of-Forall, atoms_of-Exists, atoms_of-Less}
use Rattle.esc_cover.proofs.AtomsLevels.{atoms_of-Distinct, atoms_of-LabelPos, atoms_of-LabelNeg}
use Rattle.esc_standing.specs.Keeping.{is_quantified_formula, quantified_atoms}

pub quantified-Forall : (q : Quant) → quantified_atoms (Forall q) ≡ Forall q ∷ []
unfolding roll-Formula roll out-Formula denote.Hole.Carrier.out
quantified-Forall q = ap (filter is_quantified_formula) (atoms_of-Forall q)

pub quantified-Exists : (q : Quant) → quantified_atoms (Exists q) ≡ Exists q ∷ []
unfolding roll-Formula roll out-Formula denote.Hole.Carrier.out
quantified-Exists q = ap (filter is_quantified_formula) (atoms_of-Exists q)

pub quantified-Eq : (s t : Term) → quantified_atoms (Eq s t) ≡ []
unfolding roll-Formula roll out-Formula denote.Hole.Carrier.out
quantified-Eq s t = ap (filter is_quantified_formula) (atoms_of-Eq s t)

pub quantified-Less : (s t : Term) → quantified_atoms (Less s t) ≡ []
unfolding roll-Formula roll out-Formula denote.Hole.Carrier.out
quantified-Less s t = ap (filter is_quantified_formula) (atoms_of-Less s t)

no_equations : (t : Term) (us : List Term)
    → filter is_quantified_formula (map (λ u. Eq t u) us) ≡ []
unfolding roll-Formula roll out-Formula denote.Hole.Carrier.out
no_equations t [] = refl
no_equations t (u ∷ us) = no_equations t us

no_pairs : (ts : List Term) → filter is_quantified_formula (pair_equations ts) ≡ []
no_pairs [] = refl
no_pairs (t ∷ ts) =
    filter-append is_quantified_formula (map (λ u. Eq t u) ts) (pair_equations ts)
    ∙ ap (λ xs. xs ++ filter is_quantified_formula (pair_equations ts)) (no_equations t ts)
    ∙ no_pairs ts

pub quantified-Distinct : (ts : List Term) → quantified_atoms (Distinct ts) ≡ []
unfolding roll-Formula roll out-Formula denote.Hole.Carrier.out
quantified-Distinct ts =
    ap (filter is_quantified_formula) (atoms_of-Distinct ts) ∙ no_pairs ts

module _ (us : List Term) where
  abbrev at_terms : ℕ → Formula → Formula
  at_terms d f = substituted_to us f d

  abbrev Same : Formula → Type 0
  Same f = (d : ℕ) → quantified_atoms (at_terms d f) ≡ map (at_terms d) (quantified_atoms f)

  same_all : (d : ℕ) (es : List ((f : Formula) × Same f))
      → filter is_quantified_formula (flat_map atoms_of (map (at_terms d) (map (λ e. e.0) es)))
      ≡ map (at_terms d) (filter is_quantified_formula (flat_map atoms_of (map (λ e. e.0) es)))
  same_all d [] = refl
  same_all d (e ∷ es) =
      filter-append is_quantified_formula (atoms_of (at_terms d e.0)) _
      ∙ ap (λ xs. xs ++ filter is_quantified_formula
      (flat_map atoms_of (map (at_terms d) (map (λ e. e.0) es)))) (e.1 d)
      ∙ ap (λ xs. map (at_terms d) (quantified_atoms e.0) ++ xs) (same_all d es)
      ∙ sym (map-append (at_terms d) (quantified_atoms e.0) _)
      ∙ sym (ap (map (at_terms d)) (filter-append is_quantified_formula (atoms_of e.0) _))

  same_both : (d : ℕ) (f g : Formula) → Same f → Same g
      → filter is_quantified_formula (atoms_of (at_terms d f) ++ atoms_of (at_terms d g))
      ≡ map (at_terms d) (filter is_quantified_formula (atoms_of f ++ atoms_of g))
  same_both d f g l r =
      filter-append is_quantified_formula (atoms_of (at_terms d f)) _
      ∙ ap (λ xs. xs ++ quantified_atoms (at_terms d g)) (l d)
      ∙ ap (λ xs. map (at_terms d) (quantified_atoms f) ++ xs) (r d)
      ∙ sym (map-append (at_terms d) (quantified_atoms f) _)
      ∙ sym (ap (map (at_terms d)) (filter-append is_quantified_formula (atoms_of f) _))

  same_at : (y : Formula-F ((f : Formula) × Same f) ((q : Quant) × Unit {0}))
      → Same (roll-Formula (map-Formula ((f : Formula) × Same f) ((q : Quant) × Unit {0})
      Formula Quant (λ e. e.0) (λ e. e.0) y))
  unfolding roll-Formula roll
  same_at Formula-F.True d =
      ap quantified_atoms (substituted_to-True us d)
      ∙ ap (filter is_quantified_formula) atoms_of-True
      ∙ sym (ap (λ xs. map (at_terms d) (filter is_quantified_formula xs)) atoms_of-True)
  same_at Formula-F.False d =
      ap quantified_atoms (substituted_to-False us d)
      ∙ ap (filter is_quantified_formula) atoms_of-False
      ∙ sym (ap (λ xs. map (at_terms d) (filter is_quantified_formula xs)) atoms_of-False)
  same_at (Formula-F.And es) d =
      ap quantified_atoms (substituted_to-And us d (map (λ e. e.0) es))
      ∙ ap (filter is_quantified_formula) (atoms_of-And _) ∙ same_all d es
      ∙ sym (ap (λ xs. map (at_terms d) (filter is_quantified_formula xs)) (atoms_of-And _))
  same_at (Formula-F.Or es) d =
      ap quantified_atoms (substituted_to-Or us d (map (λ e. e.0) es))
      ∙ ap (filter is_quantified_formula) (atoms_of-Or _) ∙ same_all d es
      ∙ sym (ap (λ xs. map (at_terms d) (filter is_quantified_formula xs)) (atoms_of-Or _))
  same_at (Formula-F.Not e) d =
      ap quantified_atoms (substituted_to-Not us d e.0)
      ∙ ap (filter is_quantified_formula) (atoms_of-Not _) ∙ e.1 d
      ∙ sym (ap (λ xs. map (at_terms d) (filter is_quantified_formula xs)) (atoms_of-Not e.0))
  same_at (Formula-F.Implies l r) d =
      ap quantified_atoms (substituted_to-Implies us d l.0 r.0)
      ∙ ap (filter is_quantified_formula) (atoms_of-Implies _ _) ∙ same_both d l.0 r.0 l.1 r.1
      ∙ sym (ap (λ xs. map (at_terms d) (filter is_quantified_formula xs))
      (atoms_of-Implies l.0 r.0))
  same_at (Formula-F.Iff l r) d =
      ap quantified_atoms (substituted_to-Iff us d l.0 r.0)
      ∙ ap (filter is_quantified_formula) (atoms_of-Iff _ _) ∙ same_both d l.0 r.0 l.1 r.1
      ∙ sym (ap (λ xs. map (at_terms d) (filter is_quantified_formula xs)) (atoms_of-Iff l.0 r.0))
  same_at (Formula-F.Forall q) d =
      ap quantified_atoms (substituted_to-Forall us d q.0)
      ∙ quantified-Forall (substituted_quant us q.0 d)
      ∙ ap (λ f. f ∷ []) (sym (substituted_to-Forall us d q.0))
      ∙ sym (ap (map (at_terms d)) (quantified-Forall q.0))
  same_at (Formula-F.Exists q) d =
      ap quantified_atoms (substituted_to-Exists us d q.0)
      ∙ quantified-Exists (substituted_quant us q.0 d)
      ∙ ap (λ f. f ∷ []) (sym (substituted_to-Exists us d q.0))
      ∙ sym (ap (map (at_terms d)) (quantified-Exists q.0))
  same_at (Formula-F.Eq s t) d =
      ap quantified_atoms (substituted_to-Eq us d s t) ∙ quantified-Eq _ _
      ∙ sym (ap (map (at_terms d)) (quantified-Eq s t))
  same_at (Formula-F.Less s t) d =
      ap quantified_atoms (substituted_to-Less us d s t) ∙ quantified-Less _ _
      ∙ sym (ap (map (at_terms d)) (quantified-Less s t))
  same_at (Formula-F.Distinct ts) d =
      ap quantified_atoms (substituted_to-Distinct us d ts) ∙ quantified-Distinct _
      ∙ sym (ap (map (at_terms d)) (quantified-Distinct ts))
  same_at (Formula-F.LabelPos name e) d =
      ap quantified_atoms (substituted_to-LabelPos us d name e.0)
      ∙ ap (filter is_quantified_formula) (atoms_of-LabelPos name _) ∙ e.1 d
      ∙ sym (ap (λ xs. map (at_terms d) (filter is_quantified_formula xs))
      (atoms_of-LabelPos name e.0))
  same_at (Formula-F.LabelNeg name e) d =
      ap quantified_atoms (substituted_to-LabelNeg us d name e.0)
      ∙ ap (filter is_quantified_formula) (atoms_of-LabelNeg name _) ∙ e.1 d
      ∙ sym (ap (λ xs. map (at_terms d) (filter is_quantified_formula xs))
      (atoms_of-LabelNeg name e.0))

  -- the quantified atoms at terms are those of the formula, at the terms
  pub quantified_at_terms : (f : Formula) → Same f
  quantified_at_terms =
      ind-Formula Same (λ q. Unit {0})
      (λ x y is. subst (λ z. Same (roll-Formula z)) is (same_at y)) (λ x y is. tt)
