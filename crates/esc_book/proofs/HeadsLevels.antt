-- The entries of each form of formula.
use Rattle.std.proofs.Common.{◌≡◌, List, [], ◌∷◌, ◌++◌, map, ap, ◌∙◌}
use Rattle.std.specs.List.{flat_map}
use Rattle.esc_term.proofs.Pairs.{first-pairs, flat_map-pairs}
use denote.Hole.Carrier.{roll}
use Rattle.esc_term.specs.declared.term.Sym.{Sym}
use Rattle.esc_term.specs.declared.term.Term.{Term}
use Rattle.esc_term.specs.declared.formula.Formula.{Formula}
use Rattle.esc_term.specs.declared.formula.Formula.TheVariants.{True, False, And, Or, Not, Implies}
use Rattle.esc_term.specs.declared.formula.Formula.TheVariants.{Iff, Forall, Exists, Eq, Less}
use Rattle.esc_term.specs.declared.formula.Formula.TheVariants.{Distinct, LabelPos, LabelNeg}
use Rattle.esc_term.specs.declared.formula.Formula.TheOpen.{Formula-F}
use Rattle.esc_term.specs.declared.formula.Formula.TheViews.{roll-Formula}
use Rattle.esc_term.specs.declared.formula.Formula.TheFolds.{para-roll-Formula}
use Rattle.esc_term.specs.declared.formula.Quant.{Quant}
use Rattle.esc_book.specs.Book.{heads_of, heads_step}

pub heads_of-True : heads_of True ≡ True ∷ []
unfolding heads_of roll-Formula roll
heads_of-True =
    para-roll-Formula (List Formula) Unit heads_step (λ quant. tt) Formula-F.True

pub heads_of-False : heads_of False ≡ False ∷ []
unfolding heads_of roll-Formula roll
heads_of-False =
    para-roll-Formula (List Formula) Unit heads_step (λ quant. tt) Formula-F.False

pub heads_of-And : (fs : List Formula)
    → heads_of (And fs) ≡ And fs ∷ flat_map heads_of fs
unfolding heads_of roll-Formula roll
heads_of-And fs =
    para-roll-Formula (List Formula) Unit heads_step (λ quant. tt) (Formula-F.And fs)
    ∙ (ap (λ gs. And gs ∷ flat_map (λ (part : Formula × List Formula). part.1)
    (map (λ f. (f, heads_of f)) fs)) (first-pairs heads_of fs)
    ∙ ap (λ os. And fs ∷ os) (flat_map-pairs heads_of fs))

pub heads_of-Or : (fs : List Formula)
    → heads_of (Or fs) ≡ Or fs ∷ flat_map heads_of fs
unfolding heads_of roll-Formula roll
heads_of-Or fs =
    para-roll-Formula (List Formula) Unit heads_step (λ quant. tt) (Formula-F.Or fs)
    ∙ (ap (λ gs. Or gs ∷ flat_map (λ (part : Formula × List Formula). part.1)
    (map (λ f. (f, heads_of f)) fs)) (first-pairs heads_of fs)
    ∙ ap (λ os. Or fs ∷ os) (flat_map-pairs heads_of fs))

pub heads_of-Not : (f : Formula) → heads_of (Not f) ≡ Not f ∷ heads_of f
unfolding heads_of roll-Formula roll
heads_of-Not f =
    para-roll-Formula (List Formula) Unit heads_step (λ quant. tt) (Formula-F.Not f)

pub heads_of-Implies : (f g : Formula)
    → heads_of (Implies f g) ≡ Implies f g ∷ (heads_of f ++ heads_of g)
unfolding heads_of roll-Formula roll
heads_of-Implies f g =
    para-roll-Formula (List Formula) Unit heads_step (λ quant. tt) (Formula-F.Implies f g)

pub heads_of-Iff : (f g : Formula)
    → heads_of (Iff f g) ≡ Iff f g ∷ (heads_of f ++ heads_of g)
unfolding heads_of roll-Formula roll
heads_of-Iff f g =
    para-roll-Formula (List Formula) Unit heads_step (λ quant. tt) (Formula-F.Iff f g)

pub heads_of-Forall : (q : Quant) → heads_of (Forall q) ≡ Forall q ∷ []
unfolding heads_of roll-Formula roll
heads_of-Forall q =
    para-roll-Formula (List Formula) Unit heads_step (λ quant. tt) (Formula-F.Forall q)

pub heads_of-Exists : (q : Quant) → heads_of (Exists q) ≡ Exists q ∷ []
unfolding heads_of roll-Formula roll
heads_of-Exists q =
    para-roll-Formula (List Formula) Unit heads_step (λ quant. tt) (Formula-F.Exists q)

pub heads_of-Eq : (s t : Term) → heads_of (Eq s t) ≡ Eq s t ∷ []
unfolding heads_of roll-Formula roll
heads_of-Eq s t =
    para-roll-Formula (List Formula) Unit heads_step (λ quant. tt) (Formula-F.Eq s t)

pub heads_of-Less : (s t : Term) → heads_of (Less s t) ≡ Less s t ∷ []
unfolding heads_of roll-Formula roll
heads_of-Less s t =
    para-roll-Formula (List Formula) Unit heads_step (λ quant. tt) (Formula-F.Less s t)

pub heads_of-Distinct : (ts : List Term) → heads_of (Distinct ts) ≡ Distinct ts ∷ []
unfolding heads_of roll-Formula roll
heads_of-Distinct ts =
    para-roll-Formula (List Formula) Unit heads_step (λ quant. tt) (Formula-F.Distinct ts)

pub heads_of-LabelPos : (name : Sym) (f : Formula)
    → heads_of (LabelPos name f) ≡ LabelPos name f ∷ heads_of f
unfolding heads_of roll-Formula roll
heads_of-LabelPos name f =
    para-roll-Formula (List Formula) Unit heads_step (λ quant. tt) (Formula-F.LabelPos name f)

pub heads_of-LabelNeg : (name : Sym) (f : Formula)
    → heads_of (LabelNeg name f) ≡ LabelNeg name f ∷ heads_of f
unfolding heads_of roll-Formula roll
heads_of-LabelNeg name f =
    para-roll-Formula (List Formula) Unit heads_step (λ quant. tt) (Formula-F.LabelNeg name f)
