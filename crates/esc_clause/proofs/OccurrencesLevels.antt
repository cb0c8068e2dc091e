-- The occurrences of each form of formula.
use Rattle.std.proofs.Common.{◌≡◌, List, [], ◌∷◌, ◌++◌, map, ap, ◌∙◌}
use Rattle.std.specs.List.{flat_map}
use Rattle.esc_term.proofs.Pairs.{first-pairs, flat_map-pairs}
use denote.Hole.Carrier.{roll}
use Rattle.esc_term.specs.declared.term.Sym.{Sym}
use Rattle.esc_term.specs.declared.term.Term.{Term}
use Rattle.esc_term.specs.declared.formula.Formula.{Formula}
use Rattle.esc_term.specs.declared.formula.Formula.TheVariants.{True, False, And, Or, Not, Implies}
use Rattle.esc_term.specs.declared.formula.Formula.TheVariants.{Iff, Forall, Exists, Eq, Less}
use Rattle.esc_term.specs.declared.formula.Formula.TheVariants.{Distinct, LabelPos, LabelNeg}
use Rattle.esc_term.specs.declared.formula.Formula.TheOpen.{Formula-F}
use Rattle.esc_term.specs.declared.formula.Formula.TheViews.{roll-Formula}
use Rattle.esc_term.specs.declared.formula.Formula.TheFolds.{para-roll-Formula}
use Rattle.esc_term.specs.declared.formula.Quant.{Quant}
use Rattle.esc_cover.specs.Atoms.{pair_equations}
use Rattle.esc_clause.specs.Occurrences.{occurrences_of, occurrences_step}

pub occurrences_of-True : occurrences_of True ≡ True ∷ []
unfolding occurrences_of roll-Formula roll
occurrences_of-True =
    para-roll-Formula (List Formula) Unit occurrences_step (λ quant. tt) Formula-F.True

pub occurrences_of-False : occurrences_of False ≡ False ∷ []
unfolding occurrences_of roll-Formula roll
occurrences_of-False =
    para-roll-Formula (List Formula) Unit occurrences_step (λ quant. tt) Formula-F.False

pub occurrences_of-And : (fs : List Formula)
    → occurrences_of (And fs) ≡ And fs ∷ flat_map occurrences_of fs
unfolding occurrences_of roll-Formula roll
occurrences_of-And fs =
    para-roll-Formula (List Formula) Unit occurrences_step (λ quant. tt) (Formula-F.And fs)
    ∙ (ap (λ gs. And gs ∷ flat_map (λ (part : Formula × List Formula). part.1)
    (map (λ f. (f, occurrences_of f)) fs)) (first-pairs occurrences_of fs)
    ∙ ap (λ os. And fs ∷ os) (flat_map-pairs occurrences_of fs))

pub occurrences_of-Or : (fs : List Formula)
    → occurrences_of (Or fs) ≡ Or fs ∷ flat_map occurrences_of fs
unfolding occurrences_of roll-Formula roll
occurrences_of-Or fs =
    para-roll-Formula (List Formula) Unit occurrences_step (λ quant. tt) (Formula-F.Or fs)
    ∙ (ap (λ gs. Or gs ∷ flat_map (λ (part : Formula × List Formula). part.1)
    (map (λ f. (f, occurrences_of f)) fs)) (first-pairs occurrences_of fs)
    ∙ ap (λ os. Or fs ∷ os) (flat_map-pairs occurrences_of fs))

pub occurrences_of-Not : (f : Formula) → occurrences_of (Not f) ≡ Not f ∷ occurrences_of f
unfolding occurrences_of roll-Formula roll
occurrences_of-Not f =
    para-roll-Formula (List Formula) Unit occurrences_step (λ quant. tt) (Formula-F.Not f)

pub occurrences_of-Implies : (f g : Formula)
    → occurrences_of (Implies f g) ≡ Implies f g ∷ (occurrences_of f ++ occurrences_of g)
unfolding occurrences_of roll-Formula roll
occurrences_of-Implies f g =
    para-roll-Formula (List Formula) Unit occurrences_step (λ quant. tt) (Formula-F.Implies f g)

pub occurrences_of-Iff : (f g : Formula)
    → occurrences_of (Iff f g) ≡ Iff f g ∷ (occurrences_of f ++ occurrences_of g)
unfolding occurrences_of roll-Formula roll
occurrences_of-Iff f g =
    para-roll-Formula (List Formula) Unit occurrences_step (λ quant. tt) (Formula-F.Iff f g)

pub occurrences_of-Forall : (q : Quant) → occurrences_of (Forall q) ≡ Forall q ∷ []
unfolding occurrences_of roll-Formula roll
occurrences_of-Forall q =
    para-roll-Formula (List Formula) Unit occurrences_step (λ quant. tt) (Formula-F.Forall q)

pub occurrences_of-Exists : (q : Quant) → occurrences_of (Exists q) ≡ Exists q ∷ []
unfolding occurrences_of roll-Formula roll
occurrences_of-Exists q =
    para-roll-Formula (List Formula) Unit occurrences_step (λ quant. tt) (Formula-F.Exists q)

pub occurrences_of-Eq : (s t : Term) → occurrences_of (Eq s t) ≡ Eq s t ∷ []
unfolding occurrences_of roll-Formula roll
occurrences_of-Eq s t =
    para-roll-Formula (List Formula) Unit occurrences_step (λ quant. tt) (Formula-F.Eq s t)

pub occurrences_of-Less : (s t : Term) → occurrences_of (Less s t) ≡ Less s t ∷ []
unfolding occurrences_of roll-Formula roll
occurrences_of-Less s t =
    para-roll-Formula (List Formula) Unit occurrences_step (λ quant. tt) (Formula-F.Less s t)

pub occurrences_of-Distinct : (ts : List Term)
    → occurrences_of (Distinct ts) ≡ Distinct ts ∷ pair_equations ts
unfolding occurrences_of roll-Formula roll
occurrences_of-Distinct ts =
    para-roll-Formula (List Formula) Unit occurrences_step (λ quant. tt) (Formula-F.Distinct ts)

pub occurrences_of-LabelPos : (name : Sym) (f : Formula)
    → occurrences_of (LabelPos name f) ≡ LabelPos name f ∷ occurrences_of f
unfolding occurrences_of roll-Formula roll
occurrences_of-LabelPos name f =
    para-roll-Formula (List Formula) Unit occurrences_step (λ quant. tt) (Formula-F.LabelPos name f)

pub occurrences_of-LabelNeg : (name : Sym) (f : Formula)
    → occurrences_of (LabelNeg name f) ≡ LabelNeg name f ∷ occurrences_of f
unfolding occurrences_of roll-Formula roll
occurrences_of-LabelNeg name f =
    para-roll-Formula (List Formula) Unit occurrences_step (λ quant. tt) (Formula-F.LabelNeg name f)
