-- Which of the quantified formulas stand outside all others, in each form of formula.
use Rattle.std.proofs.Common.{◌≡◌, Bool, true, false, List, [], ◌∷◌, ◌++◌, map, ap, ◌∙◌}
use Rattle.std.specs.List.{flat_map}
use denote.Hole.Carrier.{roll}
use Rattle.esc_term.specs.declared.term.Sym.{Sym}
use Rattle.esc_term.specs.declared.term.Term.{Term}
use Rattle.esc_term.specs.declared.formula.Formula.{Formula}
use Rattle.esc_term.specs.declared.formula.Formula.TheVariants.{True, False, And, Or, Not, Implies}
use Rattle.esc_term.specs.declared.formula.Formula.TheVariants.{Iff, Forall, Exists, Eq, Less}
use Rattle.esc_term.specs.declared.formula.Formula.TheVariants.{Distinct, LabelPos, LabelNeg}
use Rattle.esc_term.specs.declared.formula.Formula.TheOpen.{Formula-F}
use Rattle.esc_term.specs.declared.formula.Formula.TheViews.{roll-Formula}
use Rattle.esc_term.specs.declared.formula.Formula.TheFolds.{para-Quant, para-roll-Formula}
use Rattle.esc_term.specs.declared.formula.Formula.TheFolds.{para-roll-Quant}
use Rattle.esc_term.specs.declared.formula.Quant.{Quant}
use Rattle.esc_term.proofs.Pairs.{flat_map-pairs}
use Rattle.esc_rounds.specs.Origins.{outermost, outermost_quant_step, outermost_step}

within : (q : Quant) → para-Quant (List Bool) (List Bool) outermost_step outermost_quant_step q
    ≡ outermost q.body
unfolding outermost roll
within q =
    para-roll-Quant (List Bool) (List Bool) outermost_step outermost_quant_step
    (record { count = q.count; patterns = q.patterns; exempt = q.exempt; body = q.body })

pub outermost-True : outermost True ≡ []
unfolding outermost roll-Formula roll
outermost-True =
    para-roll-Formula (List Bool) (List Bool) outermost_step outermost_quant_step
    Formula-F.True

pub outermost-False : outermost False ≡ []
unfolding outermost roll-Formula roll
outermost-False =
    para-roll-Formula (List Bool) (List Bool) outermost_step outermost_quant_step
    Formula-F.False

pub outermost-And : (fs : List Formula) → outermost (And fs) ≡ flat_map outermost fs
unfolding outermost roll-Formula roll
outermost-And fs =
    para-roll-Formula (List Bool) (List Bool) outermost_step outermost_quant_step
    (Formula-F.And fs) ∙ flat_map-pairs outermost fs

pub outermost-Or : (fs : List Formula) → outermost (Or fs) ≡ flat_map outermost fs
unfolding outermost roll-Formula roll
outermost-Or fs =
    para-roll-Formula (List Bool) (List Bool) outermost_step outermost_quant_step
    (Formula-F.Or fs) ∙ flat_map-pairs outermost fs

pub outermost-Not : (f : Formula) → outermost (Not f) ≡ outermost f
unfolding outermost roll-Formula roll
outermost-Not f =
    para-roll-Formula (List Bool) (List Bool) outermost_step outermost_quant_step
    (Formula-F.Not f)

pub outermost-Implies : (f : Formula) (g : Formula)
    → outermost (Implies f g) ≡ outermost f ++ outermost g
unfolding outermost roll-Formula roll
outermost-Implies f g =
    para-roll-Formula (List Bool) (List Bool) outermost_step outermost_quant_step
    (Formula-F.Implies f g)

pub outermost-Iff : (f : Formula) (g : Formula)
    → outermost (Iff f g) ≡ outermost f ++ outermost g
unfolding outermost roll-Formula roll
outermost-Iff f g =
    para-roll-Formula (List Bool) (List Bool) outermost_step outermost_quant_step
    (Formula-F.Iff f g)

pub outermost-Forall : (q : Quant)
    → outermost (Forall q) ≡ true ∷ map (λ inside. false) (outermost q.body)
unfolding outermost roll-Formula roll
outermost-Forall q =
    para-roll-Formula (List Bool) (List Bool) outermost_step outermost_quant_step
    (Formula-F.Forall q)
    ∙ ap (λ bs. true ∷ map (λ inside. false) bs) (within q)

pub outermost-Exists : (q : Quant)
    → outermost (Exists q) ≡ true ∷ map (λ inside. false) (outermost q.body)
unfolding outermost roll-Formula roll
outermost-Exists q =
    para-roll-Formula (List Bool) (List Bool) outermost_step outermost_quant_step
    (Formula-F.Exists q)
    ∙ ap (λ bs. true ∷ map (λ inside. false) bs) (within q)

pub outermost-Eq : (s : Term) (t : Term) → outermost (Eq s t) ≡ []
unfolding outermost roll-Formula roll
outermost-Eq s t =
    para-roll-Formula (List Bool) (List Bool) outermost_step outermost_quant_step
    (Formula-F.Eq s t)

pub outermost-Less : (s : Term) (t : Term) → outermost (Less s t) ≡ []
unfolding outermost roll-Formula roll
outermost-Less s t =
    para-roll-Formula (List Bool) (List Bool) outermost_step outermost_quant_step
    (Formula-F.Less s t)

pub outermost-Distinct : (ts : List Term) → outermost (Distinct ts) ≡ []
unfolding outermost roll-Formula roll
outermost-Distinct ts =
    para-roll-Formula (List Bool) (List Bool) outermost_step outermost_quant_step
    (Formula-F.Distinct ts)

pub outermost-LabelPos : (name : Sym) (f : Formula) → outermost (LabelPos name f) ≡ outermost f
unfolding outermost roll-Formula roll
outermost-LabelPos name f =
    para-roll-Formula (List Bool) (List Bool) outermost_step outermost_quant_step
    (Formula-F.LabelPos name f)

pub outermost-LabelNeg : (name : Sym) (f : Formula) → outermost (LabelNeg name f) ≡ outermost f
unfolding outermost roll-Formula roll
outermost-LabelNeg name f =
    para-roll-Formula (List Bool) (List Bool) outermost_step outermost_quant_step
    (Formula-F.LabelNeg name f)

pub ruleset outermost_levels = (
  outermost-True,
  outermost-False,
  outermost-And,
  outermost-Or,
  outermost-Not,
  outermost-Implies,
  outermost-Iff,
  outermost-Forall,
  outermost-Exists,
  outermost-Eq,
  outermost-Less,
  outermost-Distinct,
  outermost-LabelPos,
  outermost-LabelNeg,
)
