-- The atoms of each form of formula.
use Rattle.std.proofs.Common.{◌≡◌, List, [], ◌∷◌, ◌++◌, ◌∙◌}
use Rattle.std.specs.List.{flat_map}
use Rattle.esc_term.proofs.Pairs.{flat_map-pairs}
use denote.Hole.Carrier.{roll}
use Rattle.esc_term.specs.declared.term.Sym.{Sym}
use Rattle.esc_term.specs.declared.term.Term.{Term}
use Rattle.esc_term.specs.declared.formula.Formula.{Formula}
use Rattle.esc_term.specs.declared.formula.Formula.TheVariants.{True, False, And, Or, Not, Implies, Iff, Forall, Exists, Eq, Less, Distinct, LabelPos, LabelNeg}
use Rattle.esc_term.specs.declared.formula.Formula.TheOpen.{Formula-F}
use Rattle.esc_term.specs.declared.formula.Formula.TheViews.{roll-Formula}
use Rattle.esc_term.specs.declared.formula.Formula.TheFolds.{para-roll-Formula}
use Rattle.esc_term.specs.declared.formula.Quant.{Quant}
use Rattle.esc_cover.specs.Atoms.{atoms_of, atoms_step, pair_equations}

pub atoms_of-True : atoms_of True ≡ []
unfolding atoms_of roll-Formula roll
atoms_of-True = para-roll-Formula (List Formula) Unit atoms_step (λ quant. tt) Formula-F.True

pub atoms_of-False : atoms_of False ≡ []
unfolding atoms_of roll-Formula roll
atoms_of-False = para-roll-Formula (List Formula) Unit atoms_step (λ quant. tt) Formula-F.False

pub atoms_of-And : (fs : List Formula) → atoms_of (And fs) ≡ flat_map atoms_of fs
unfolding atoms_of roll-Formula roll
atoms_of-And fs = para-roll-Formula (List Formula) Unit atoms_step (λ quant. tt) (Formula-F.And fs)
    ∙ flat_map-pairs atoms_of fs

pub atoms_of-Or : (fs : List Formula) → atoms_of (Or fs) ≡ flat_map atoms_of fs
unfolding atoms_of roll-Formula roll
atoms_of-Or fs = para-roll-Formula (List Formula) Unit atoms_step (λ quant. tt) (Formula-F.Or fs)
    ∙ flat_map-pairs atoms_of fs

pub atoms_of-Not : (f : Formula) → atoms_of (Not f) ≡ atoms_of f
unfolding atoms_of roll-Formula roll
atoms_of-Not f = para-roll-Formula (List Formula) Unit atoms_step (λ quant. tt) (Formula-F.Not f)

pub atoms_of-Implies : (f : Formula) (g : Formula) → atoms_of (Implies f g) ≡ atoms_of f
    ++ atoms_of g
unfolding atoms_of roll-Formula roll
atoms_of-Implies f g = para-roll-Formula (List Formula) Unit atoms_step (λ quant. tt)
    (Formula-F.Implies f g)

pub atoms_of-Iff : (f : Formula) (g : Formula) → atoms_of (Iff f g) ≡ atoms_of f ++ atoms_of g
unfolding atoms_of roll-Formula roll
atoms_of-Iff f g = para-roll-Formula (List Formula) Unit atoms_step (λ quant. tt)
    (Formula-F.Iff f g)

pub atoms_of-Forall : (q : Quant) → atoms_of (Forall q) ≡ Forall q ∷ []
unfolding atoms_of roll-Formula roll
atoms_of-Forall q = para-roll-Formula (List Formula) Unit atoms_step (λ quant. tt)
    (Formula-F.Forall q)

pub atoms_of-Exists : (q : Quant) → atoms_of (Exists q) ≡ Exists q ∷ []
unfolding atoms_of roll-Formula roll
atoms_of-Exists q = para-roll-Formula (List Formula) Unit atoms_step (λ quant. tt)
    (Formula-F.Exists q)

pub atoms_of-Eq : (s : Term) (t : Term) → atoms_of (Eq s t) ≡ Eq s t ∷ []
unfolding atoms_of roll-Formula roll
atoms_of-Eq s t = para-roll-Formula (List Formula) Unit atoms_step (λ quant. tt) (Formula-F.Eq s t)

pub atoms_of-Less : (s : Term) (t : Term) → atoms_of (Less s t) ≡ Less s t ∷ []
unfolding atoms_of roll-Formula roll
atoms_of-Less s t = para-roll-Formula (List Formula) Unit atoms_step (λ quant. tt)
    (Formula-F.Less s t)

pub atoms_of-Distinct : (ts : List Term) → atoms_of (Distinct ts) ≡ Distinct ts ∷ pair_equations ts
unfolding atoms_of roll-Formula roll
atoms_of-Distinct ts = para-roll-Formula (List Formula) Unit atoms_step (λ quant. tt)
    (Formula-F.Distinct ts)

pub atoms_of-LabelPos : (name : Sym) (f : Formula) → atoms_of (LabelPos name f) ≡ atoms_of f
unfolding atoms_of roll-Formula roll
atoms_of-LabelPos name f = para-roll-Formula (List Formula) Unit atoms_step (λ quant. tt)
    (Formula-F.LabelPos name f)

pub atoms_of-LabelNeg : (name : Sym) (f : Formula) → atoms_of (LabelNeg name f) ≡ atoms_of f
unfolding atoms_of roll-Formula roll
atoms_of-LabelNeg name f = para-roll-Formula (List Formula) Unit atoms_step (λ quant. tt)
    (Formula-F.LabelNeg name f)

pub ruleset atoms_levels = (
  atoms_of-True,
  atoms_of-False,
  atoms_of-And,
  atoms_of-Or,
  atoms_of-Not,
  atoms_of-Implies,
  atoms_of-Iff,
  atoms_of-Forall,
  atoms_of-Exists,
  atoms_of-Eq,
  atoms_of-Less,
  atoms_of-Distinct,
  atoms_of-LabelPos,
  atoms_of-LabelNeg,
)
