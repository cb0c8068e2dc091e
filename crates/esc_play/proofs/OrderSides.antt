-- The sides of the orders in each form of formula.
use Rattle.std.proofs.Common.{◌≡◌, List, [], ◌∷◌, ◌++◌, map, refl, ap, sym, ◌∙◌}
use Rattle.std.specs.List.{flat_map}
use Rattle.std.proofs.lemmas.Grind.{flat_map-append}
use Rattle.esc_term.specs.declared.term.Sym.{Sym}
use Rattle.esc_term.specs.declared.term.Term.{Term}
use Rattle.esc_term.specs.declared.formula.Formula.{Formula, out-Formula}
use Rattle.esc_term.specs.declared.formula.Formula.TheOpen.{Formula-F}
use Rattle.esc_term.specs.declared.formula.Formula.TheViews.{out-roll-Formula}
use Rattle.esc_term.specs.declared.formula.Formula.TheVariants.{True, False, And, Or, Not, Implies}
use Rattle.esc_term.specs.declared.formula.Formula.TheVariants.{Iff, Forall, Exists, Eq, Less}
use Rattle.esc_term.specs.declared.formula.Formula.TheVariants.{Distinct, LabelPos, LabelNeg}
use Rattle.esc_term.specs.declared.formula.Formula.TheVariants.{rolls-Forall, rolls-Exists}
use Rattle.esc_term.specs.declared.formula.Formula.TheVariants.{rolls-Eq, rolls-Less}
use Rattle.esc_term.specs.declared.formula.Formula.TheVariants.{rolls-Distinct}
use Rattle.esc_term.specs.declared.formula.Quant.{Quant}
use Rattle.esc_cover.specs.Arithmetic.{order_sides_form}
use Rattle.esc_cover.specs.Atoms.{atoms_of, pair_equations}
use Rattle.esc_cover.proofs.AtomsLevels.{atoms_of-True, atoms_of-False, atoms_of-And, atoms_of-Or}
use Rattle.esc_cover.proofs.AtomsLevels.{atoms_of-Not, atoms_of-Implies, atoms_of-Iff}
use Rattle.esc_cover.proofs.AtomsLevels.{atoms_of-Forall, atoms_of-Exists, atoms_of-Eq}
use Rattle.esc_cover.proofs.AtomsLevels.{atoms_of-Less, atoms_of-Distinct, atoms_of-LabelPos}
use Rattle.esc_cover.proofs.AtomsLevels.{atoms_of-LabelNeg}
use Rattle.esc_play.specs.WalkingInside.{sides_in}

-- ---- of one atom

abbrev sides_of : Formula → List Term
sides_of atom = order_sides_form (out-Formula atom)

sides_of-Forall : (q : Quant) → sides_of (Forall q) ≡ []
sides_of-Forall q = ap order_sides_form
    (ap out-Formula (sym (rolls-Forall q)) ∙ out-roll-Formula (Formula-F.Forall q))

sides_of-Exists : (q : Quant) → sides_of (Exists q) ≡ []
sides_of-Exists q = ap order_sides_form
    (ap out-Formula (sym (rolls-Exists q)) ∙ out-roll-Formula (Formula-F.Exists q))

sides_of-Eq : (s t : Term) → sides_of (Eq s t) ≡ []
sides_of-Eq s t = ap order_sides_form
    (ap out-Formula (sym (rolls-Eq s t)) ∙ out-roll-Formula (Formula-F.Eq s t))

sides_of-Less : (s t : Term) → sides_of (Less s t) ≡ s ∷ t ∷ []
sides_of-Less s t = ap order_sides_form
    (ap out-Formula (sym (rolls-Less s t)) ∙ out-roll-Formula (Formula-F.Less s t))

sides_of-Distinct : (ts : List Term) → sides_of (Distinct ts) ≡ []
sides_of-Distinct ts = ap order_sides_form
    (ap out-Formula (sym (rolls-Distinct ts)) ∙ out-roll-Formula (Formula-F.Distinct ts))

-- ---- of some

flat_map-flat_map : {X Y Z : Type 0} (f : Y → List Z) (g : X → List Y) (xs : List X)
    → flat_map f (flat_map g xs) ≡ flat_map (λ x. flat_map f (g x)) xs
flat_map-flat_map f g [] = refl
flat_map-flat_map f g (x ∷ xs) = flat_map-append f (g x) (flat_map g xs)
    ∙ ap (λ ys. flat_map f (g x) ++ ys) (flat_map-flat_map f g xs)

equations_with : (t : Term) (us : List Term)
    → flat_map sides_of (map (λ u. Eq t u) us) ≡ []
equations_with t [] = refl
equations_with t (u ∷ us) =
    ap (λ ys. ys ++ flat_map sides_of (map (λ v. Eq t v) us)) (sides_of-Eq t u)
    ∙ equations_with t us

equations_among : (ts : List Term) → flat_map sides_of (pair_equations ts) ≡ []
equations_among [] = refl
equations_among (t ∷ ts) =
    flat_map-append sides_of (map (λ u. Eq t u) ts) (pair_equations ts)
    ∙ (ap (λ ys. ys ++ flat_map sides_of (pair_equations ts)) (equations_with t ts)
    ∙ equations_among ts)

-- ---- by the form

pub sides_in-True : sides_in True ≡ []
sides_in-True = ap (flat_map sides_of) atoms_of-True

pub sides_in-False : sides_in False ≡ []
sides_in-False = ap (flat_map sides_of) atoms_of-False

pub sides_in-And : (fs : List Formula) → sides_in (And fs) ≡ flat_map sides_in fs
sides_in-And fs = ap (flat_map sides_of) (atoms_of-And fs) ∙ flat_map-flat_map sides_of atoms_of fs

pub sides_in-Or : (fs : List Formula) → sides_in (Or fs) ≡ flat_map sides_in fs
sides_in-Or fs = ap (flat_map sides_of) (atoms_of-Or fs) ∙ flat_map-flat_map sides_of atoms_of fs

pub sides_in-Not : (f : Formula) → sides_in (Not f) ≡ sides_in f
sides_in-Not f = ap (flat_map sides_of) (atoms_of-Not f)

pub sides_in-Implies : (f g : Formula) → sides_in (Implies f g) ≡ sides_in f ++ sides_in g
sides_in-Implies f g = ap (flat_map sides_of) (atoms_of-Implies f g)
    ∙ flat_map-append sides_of (atoms_of f) (atoms_of g)

pub sides_in-Iff : (f g : Formula) → sides_in (Iff f g) ≡ sides_in f ++ sides_in g
sides_in-Iff f g = ap (flat_map sides_of) (atoms_of-Iff f g)
    ∙ flat_map-append sides_of (atoms_of f) (atoms_of g)

pub sides_in-Forall : (q : Quant) → sides_in (Forall q) ≡ []
sides_in-Forall q = ap (flat_map sides_of) (atoms_of-Forall q)
    ∙ ap (λ ys. ys ++ []) (sides_of-Forall q)

pub sides_in-Exists : (q : Quant) → sides_in (Exists q) ≡ []
sides_in-Exists q = ap (flat_map sides_of) (atoms_of-Exists q)
    ∙ ap (λ ys. ys ++ []) (sides_of-Exists q)

pub sides_in-Eq : (s t : Term) → sides_in (Eq s t) ≡ []
sides_in-Eq s t = ap (flat_map sides_of) (atoms_of-Eq s t) ∙ ap (λ ys. ys ++ []) (sides_of-Eq s t)

pub sides_in-Less : (s t : Term) → sides_in (Less s t) ≡ s ∷ t ∷ []
sides_in-Less s t = ap (flat_map sides_of) (atoms_of-Less s t)
    ∙ ap (λ ys. ys ++ []) (sides_of-Less s t)

pub sides_in-Distinct : (ts : List Term) → sides_in (Distinct ts) ≡ []
sides_in-Distinct ts = ap (flat_map sides_of) (atoms_of-Distinct ts)
    ∙ (ap (λ ys. ys ++ flat_map sides_of (pair_equations ts)) (sides_of-Distinct ts)
    ∙ equations_among ts)

pub sides_in-LabelPos : (name : Sym) (f : Formula) → sides_in (LabelPos name f) ≡ sides_in f
sides_in-LabelPos name f = ap (flat_map sides_of) (atoms_of-LabelPos name f)

pub sides_in-LabelNeg : (name : Sym) (f : Formula) → sides_in (LabelNeg name f) ≡ sides_in f
sides_in-LabelNeg name f = ap (flat_map sides_of) (atoms_of-LabelNeg name f)
