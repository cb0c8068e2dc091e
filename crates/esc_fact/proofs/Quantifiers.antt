-- The quantified formulas in each form of formula, and that each is bound where it stands.
use Rattle.std.proofs.Common.{◌≡◌, ◌⊎◌, inl, inr, ℕ, ◌+◌, Bool, true, false, ◌&&◌, List, [], ◌∷◌}
use Rattle.std.proofs.Common.{◌++◌, map, refl, ap, sym, subst, ◌∙◌}
use Rattle.std.specs.List.{flat_map, list_all}
use Rattle.std.proofs.lemmas.Bool.{and_parts, and_from}
use Rattle.std.proofs.lemmas.List.{map-append}
use Rattle.std.proofs.lemmas.List.Folds.{list_all-append}
use denote.Hole.Carrier.{roll}
use Rattle.esc_term.specs.declared.term.Sym.{Sym}
use Rattle.esc_term.specs.declared.term.Term.{Term}
use Rattle.esc_term.specs.declared.formula.Formula.{Formula}
use Rattle.esc_term.specs.declared.formula.Formula.TheVariants.{True, False, And, Or, Not, Implies}
use Rattle.esc_term.specs.declared.formula.Formula.TheVariants.{Iff, Forall, Exists, Eq, Less}
use Rattle.esc_term.specs.declared.formula.Formula.TheVariants.{Distinct, LabelPos, LabelNeg}
use Rattle.esc_term.specs.declared.formula.Formula.TheOpen.{Formula-F, Quant-F}
use Rattle.esc_term.specs.declared.formula.Formula.TheViews.{roll-Formula, roll-Quant}
use Rattle.esc_term.specs.declared.formula.Formula.TheFolds.{map-Formula, map-Quant, ind-Formula}
use Rattle.esc_term.specs.declared.formula.Formula.TheFolds.{para-Quant, para-roll-Formula}
use Rattle.esc_term.specs.declared.formula.Formula.TheFolds.{para-roll-Quant}
use Rattle.esc_term.specs.declared.formula.Quant.{Quant}
use Rattle.esc_term.specs.Formula.{binds, binds_quant}
use Rattle.esc_term.proofs.FormulaLevels.{binds-And, binds-Or, binds-Not, binds-Implies, binds-Iff}
use Rattle.esc_term.proofs.FormulaLevels.{binds-Forall, binds-Exists, binds-LabelPos}
use Rattle.esc_term.proofs.FormulaLevels.{binds-LabelNeg, binds_quant-at}
use Rattle.esc_term.proofs.Pairs.{flat_map-map}
use Rattle.esc_term.proofs.Tests.{implied_by, list_all-flat_map}
use Rattle.esc_fact.specs.Base.{Listing, Quantified, quantified_quant_step, quantified_step}
use Rattle.esc_fact.specs.Base.{quantified_under, whole}
use Rattle.esc_fact.specs.WalkInside.{wholes_under}

-- ---- each form

within : (q : Quant) (d : ℕ) → para-Quant Listing Listing quantified_step quantified_quant_step q d
    ≡ quantified_under q.body (d + q.count)
unfolding quantified_under roll
within q d =
    ap (λ h. h d) (para-roll-Quant Listing Listing quantified_step quantified_quant_step
    (record { count = q.count; patterns = q.patterns; exempt = q.exempt; body = q.body }))

pub under-True : (d : ℕ) → quantified_under True d ≡ []
unfolding quantified_under roll-Formula roll
under-True d =
    ap (λ h. h d) (para-roll-Formula Listing Listing quantified_step
    quantified_quant_step Formula-F.True)

pub under-False : (d : ℕ) → quantified_under False d ≡ []
unfolding quantified_under roll-Formula roll
under-False d =
    ap (λ h. h d) (para-roll-Formula Listing Listing quantified_step quantified_quant_step
    Formula-F.False)

pub under-And : (d : ℕ) (fs : List Formula)
    → quantified_under (And fs) d ≡ flat_map (λ f. quantified_under f d) fs
unfolding quantified_under roll-Formula roll
under-And d fs =
    ap (λ h. h d) (para-roll-Formula Listing Listing quantified_step quantified_quant_step
    (Formula-F.And fs))
    ∙ flat_map-map (λ (part : Formula × Listing). part.1 d) (λ f. (f, quantified_under f)) fs

pub under-Or : (d : ℕ) (fs : List Formula)
    → quantified_under (Or fs) d ≡ flat_map (λ f. quantified_under f d) fs
unfolding quantified_under roll-Formula roll
under-Or d fs =
    ap (λ h. h d) (para-roll-Formula Listing Listing quantified_step quantified_quant_step
    (Formula-F.Or fs)) ∙ flat_map-map (λ (part : Formula × Listing). part.1 d)
    (λ f. (f, quantified_under f)) fs

pub under-Not : (d : ℕ) (f : Formula) → quantified_under (Not f) d ≡ quantified_under f d
unfolding quantified_under roll-Formula roll
under-Not d f =
    ap (λ h. h d) (para-roll-Formula Listing Listing quantified_step quantified_quant_step
    (Formula-F.Not f))

pub under-Implies : (d : ℕ) (f : Formula) (g : Formula)
    → quantified_under (Implies f g) d ≡ quantified_under f d ++ quantified_under g d
unfolding quantified_under roll-Formula roll
under-Implies d f g =
    ap (λ h. h d) (para-roll-Formula Listing Listing quantified_step quantified_quant_step
    (Formula-F.Implies f g))

pub under-Iff : (d : ℕ) (f : Formula) (g : Formula)
    → quantified_under (Iff f g) d ≡ quantified_under f d ++ quantified_under g d
unfolding quantified_under roll-Formula roll
under-Iff d f g =
    ap (λ h. h d) (para-roll-Formula Listing Listing quantified_step quantified_quant_step
    (Formula-F.Iff f g))

pub under-Forall : (d : ℕ) (q : Quant)
    → quantified_under (Forall q) d
    ≡ record { universal = true; quant = q; outer = d } ∷ quantified_under q.body (d + q.count)
unfolding quantified_under roll-Formula roll
under-Forall d q =
    ap (λ h. h d) (para-roll-Formula Listing Listing quantified_step quantified_quant_step
    (Formula-F.Forall q))
    ∙ ap (λ qs. record { universal = true; quant = q; outer = d } ∷ qs) (within q d)

pub under-Exists : (d : ℕ) (q : Quant)
    → quantified_under (Exists q) d
    ≡ record { universal = false; quant = q; outer = d } ∷ quantified_under q.body (d + q.count)
unfolding quantified_under roll-Formula roll
under-Exists d q =
    ap (λ h. h d) (para-roll-Formula Listing Listing quantified_step quantified_quant_step
    (Formula-F.Exists q))
    ∙ ap (λ qs. record { universal = false; quant = q; outer = d } ∷ qs) (within q d)

pub under-Eq : (d : ℕ) (s : Term) (t : Term) → quantified_under (Eq s t) d ≡ []
unfolding quantified_under roll-Formula roll
under-Eq d s t =
    ap (λ h. h d) (para-roll-Formula Listing Listing quantified_step quantified_quant_step
    (Formula-F.Eq s t))

pub under-Less : (d : ℕ) (s : Term) (t : Term) → quantified_under (Less s t) d ≡ []
unfolding quantified_under roll-Formula roll
under-Less d s t =
    ap (λ h. h d) (para-roll-Formula Listing Listing quantified_step quantified_quant_step
    (Formula-F.Less s t))

pub under-Distinct : (d : ℕ) (ts : List Term) → quantified_under (Distinct ts) d ≡ []
unfolding quantified_under roll-Formula roll
under-Distinct d ts =
    ap (λ h. h d) (para-roll-Formula Listing Listing quantified_step quantified_quant_step
    (Formula-F.Distinct ts))

pub under-LabelPos : (d : ℕ) (name : Sym) (f : Formula)
    → quantified_under (LabelPos name f) d ≡ quantified_under f d
unfolding quantified_under roll-Formula roll
under-LabelPos d name f =
    ap (λ h. h d) (para-roll-Formula Listing Listing quantified_step quantified_quant_step
    (Formula-F.LabelPos name f))

pub under-LabelNeg : (d : ℕ) (name : Sym) (f : Formula)
    → quantified_under (LabelNeg name f) d ≡ quantified_under f d
unfolding quantified_under roll-Formula roll
under-LabelNeg d name f =
    ap (λ h. h d) (para-roll-Formula Listing Listing quantified_step quantified_quant_step
    (Formula-F.LabelNeg name f))

-- ---- as formulas

pub map-flat_map : {X Y Z : Type 0} (g : Y → Z) (f : X → List Y) (xs : List X)
    → map g (flat_map f xs) ≡ flat_map (λ x. map g (f x)) xs
map-flat_map g f [] = refl
map-flat_map g f (x ∷ xs) =
    map-append g (f x) (flat_map f xs) ∙ ap (λ zs. map g (f x) ++ zs) (map-flat_map g f xs)

pub wholes-True : (d : ℕ) → wholes_under d True ≡ []
unfolding wholes_under
wholes-True d = ap (map whole) (under-True d)

pub wholes-False : (d : ℕ) → wholes_under d False ≡ []
unfolding wholes_under
wholes-False d = ap (map whole) (under-False d)

pub wholes-And : (d : ℕ) (fs : List Formula)
    → wholes_under d (And fs) ≡ flat_map (wholes_under d) fs
unfolding wholes_under
wholes-And d fs =
    ap (map whole) (under-And d fs) ∙ map-flat_map whole (λ f. quantified_under f d) fs

pub wholes-Or : (d : ℕ) (fs : List Formula) → wholes_under d (Or fs) ≡ flat_map (wholes_under d) fs
unfolding wholes_under
wholes-Or d fs = ap (map whole) (under-Or d fs) ∙ map-flat_map whole (λ f. quantified_under f d) fs

pub wholes-Not : (d : ℕ) (f : Formula) → wholes_under d (Not f) ≡ wholes_under d f
unfolding wholes_under
wholes-Not d f = ap (map whole) (under-Not d f)

pub wholes-Implies : (d : ℕ) (f : Formula) (g : Formula)
    → wholes_under d (Implies f g) ≡ wholes_under d f ++ wholes_under d g
unfolding wholes_under
wholes-Implies d f g =
    ap (map whole) (under-Implies d f g)
    ∙ map-append whole (quantified_under f d) (quantified_under g d)

pub wholes-Iff : (d : ℕ) (f : Formula) (g : Formula)
    → wholes_under d (Iff f g) ≡ wholes_under d f ++ wholes_under d g
unfolding wholes_under
wholes-Iff d f g =
    ap (map whole) (under-Iff d f g)
    ∙ map-append whole (quantified_under f d) (quantified_under g d)

pub wholes-Forall : (d : ℕ) (q : Quant)
    → wholes_under d (Forall q) ≡ Forall q ∷ wholes_under (d + q.count) q.body
unfolding wholes_under
wholes-Forall d q = ap (map whole) (under-Forall d q)

pub wholes-Exists : (d : ℕ) (q : Quant)
    → wholes_under d (Exists q) ≡ Exists q ∷ wholes_under (d + q.count) q.body
unfolding wholes_under
wholes-Exists d q = ap (map whole) (under-Exists d q)

pub wholes-Eq : (d : ℕ) (s : Term) (t : Term) → wholes_under d (Eq s t) ≡ []
unfolding wholes_under
wholes-Eq d s t = ap (map whole) (under-Eq d s t)

pub wholes-Less : (d : ℕ) (s : Term) (t : Term) → wholes_under d (Less s t) ≡ []
unfolding wholes_under
wholes-Less d s t = ap (map whole) (under-Less d s t)

pub wholes-Distinct : (d : ℕ) (ts : List Term) → wholes_under d (Distinct ts) ≡ []
unfolding wholes_under
wholes-Distinct d ts = ap (map whole) (under-Distinct d ts)

pub wholes-LabelPos : (d : ℕ) (name : Sym) (f : Formula)
    → wholes_under d (LabelPos name f) ≡ wholes_under d f
unfolding wholes_under
wholes-LabelPos d name f = ap (map whole) (under-LabelPos d name f)

pub wholes-LabelNeg : (d : ℕ) (name : Sym) (f : Formula)
    → wholes_under d (LabelNeg name f) ≡ wholes_under d f
unfolding wholes_under
wholes-LabelNeg d name f = ap (map whole) (under-LabelNeg d name f)

-- a formula of two parts of either form
pub wholes-sides : (d : ℕ) (h f g : Formula) → (h ≡ Implies f g) ⊎ (h ≡ Iff f g)
    → wholes_under d h ≡ wholes_under d f ++ wholes_under d g
wholes-sides d h f g (inl e) = ap (wholes_under d) e ∙ wholes-Implies d f g
wholes-sides d h f g (inr e) = ap (wholes_under d) e ∙ wholes-Iff d f g

pub ruleset wholes_levels = (
  wholes-True,
  wholes-False,
  wholes-And,
  wholes-Or,
  wholes-Not,
  wholes-Implies,
  wholes-Iff,
  wholes-Forall,
  wholes-Exists,
  wholes-Eq,
  wholes-Less,
  wholes-Distinct,
  wholes-LabelPos,
  wholes-LabelNeg,
)

-- ---- bound

-- each variable of it that no quantifier inside binds is bound around it
abbrev pub is_bound : Quantified → Bool
is_bound q = binds (whole q) q.outer

abbrev Bound : Formula → Type 0
Bound f = (d : ℕ) → binds f d ≡ true → list_all is_bound (quantified_under f d) ≡ true

abbrev Bound_quant : Quant → Type 0
Bound_quant q = Bound q.body

all_bound : (d : ℕ) (es : List ((f : Formula) × Bound f))
    → list_all (λ f. binds f d) (map (λ e. e.0) es) ≡ true
    → list_all is_bound (flat_map (λ f. quantified_under f d) (map (λ e. e.0) es)) ≡ true
all_bound d es b =
    list_all-flat_map is_bound (λ f. quantified_under f d) (map (λ e. e.0) es)
    ∙ implied_by (λ f. binds f d) (λ f. list_all is_bound (quantified_under f d)) Bound
    (λ f bound. bound d) es b

both_bound : (d : ℕ) (f g : Formula) → Bound f → Bound g → (binds f d && binds g d) ≡ true
    → list_all is_bound (quantified_under f d ++ quantified_under g d) ≡ true
both_bound d f g l r b =
    let parts = and_parts (binds f d) (binds g d) b in
    list_all-append is_bound (quantified_under f d) (quantified_under g d)
    ∙ and_from _ _ (l d parts.0) (r d parts.1)

-- the body of a bound quantified formula is bound
pub body_bound : (q : Quant) (d : ℕ) → binds_quant q d ≡ true → binds q.body (d + q.count) ≡ true
body_bound q d b = (and_parts _ (binds q.body (d + q.count)) (sym (binds_quant-at d q) ∙ b)).1

bound_at : (y : Formula-F ((f : Formula) × Bound f) ((q : Quant) × Bound_quant q))
    → Bound (roll-Formula (map-Formula ((f : Formula) × Bound f)
    ((q : Quant) × Bound_quant q) Formula Quant (λ e. e.0) (λ e. e.0) y))
unfolding roll-Formula roll
bound_at Formula-F.True d b = ap (list_all is_bound) (under-True d)
bound_at Formula-F.False d b = ap (list_all is_bound) (under-False d)
bound_at (Formula-F.And es) d b =
    ap (list_all is_bound) (under-And d (map (λ e. e.0) es))
    ∙ all_bound d es (sym (binds-And d (map (λ e. e.0) es)) ∙ b)
bound_at (Formula-F.Or es) d b =
    ap (list_all is_bound) (under-Or d (map (λ e. e.0) es))
    ∙ all_bound d es (sym (binds-Or d (map (λ e. e.0) es)) ∙ b)
bound_at (Formula-F.Not e) d b =
    ap (list_all is_bound) (under-Not d e.0) ∙ e.1 d (sym (binds-Not d e.0) ∙ b)
bound_at (Formula-F.Implies l r) d b =
    ap (list_all is_bound) (under-Implies d l.0 r.0)
    ∙ both_bound d l.0 r.0 l.1 r.1 (sym (binds-Implies d l.0 r.0) ∙ b)
bound_at (Formula-F.Iff l r) d b =
    ap (list_all is_bound) (under-Iff d l.0 r.0)
    ∙ both_bound d l.0 r.0 l.1 r.1 (sym (binds-Iff d l.0 r.0) ∙ b)
bound_at (Formula-F.Forall q) d b =
    ap (list_all is_bound) (under-Forall d q.0)
    ∙ and_from _ _ b (q.1 (d + q.0.count) (body_bound q.0 d (sym (binds-Forall d q.0) ∙ b)))
bound_at (Formula-F.Exists q) d b =
    ap (list_all is_bound) (under-Exists d q.0)
    ∙ and_from _ _ b (q.1 (d + q.0.count) (body_bound q.0 d (sym (binds-Exists d q.0) ∙ b)))
bound_at (Formula-F.Eq s t) d b = ap (list_all is_bound) (under-Eq d s t)
bound_at (Formula-F.Less s t) d b = ap (list_all is_bound) (under-Less d s t)
bound_at (Formula-F.Distinct ts) d b = ap (list_all is_bound) (under-Distinct d ts)
bound_at (Formula-F.LabelPos name e) d b =
    ap (list_all is_bound) (under-LabelPos d name e.0) ∙ e.1 d (sym (binds-LabelPos d name e.0) ∙ b)
bound_at (Formula-F.LabelNeg name e) d b =
    ap (list_all is_bound) (under-LabelNeg d name e.0) ∙ e.1 d (sym (binds-LabelNeg d name e.0) ∙ b)

quant_bound_at : (y : Quant-F ((f : Formula) × Bound f) ((q : Quant) × Bound_quant q))
    → Bound_quant (roll-Quant (map-Quant ((f : Formula) × Bound f)
    ((q : Quant) × Bound_quant q) Formula Quant (λ e. e.0) (λ e. e.0) y))
unfolding roll
quant_bound_at y = y.body.1

-- each quantified formula in a bound formula is bound where it stands
pub bound_under : (f : Formula) → Bound f
bound_under =
    ind-Formula Bound Bound_quant (λ x y is. subst (λ z. Bound (roll-Formula z)) is (bound_at y))
    (λ x y is. subst (λ z. Bound_quant (roll-Quant z)) is (quant_bound_at y))
