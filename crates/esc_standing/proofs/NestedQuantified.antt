-- Where the quantified formulas in the body of a quantified formula stand: right after it.
use Rattle.std.proofs.Common.{◌≡◌, ℕ, zero, suc, ◌+◌, List, [], ◌∷◌, ◌++◌, map, length, inl, inr}
use Rattle.std.proofs.Common.{◌⊎◌, Some, sym, subst, arith, true, false}
use Rattle.std.specs.List.{flat_map}
use Rattle.std.specs.Prelude.{slice_get}
use denote.Hole.Carrier.{roll}
use Rattle.esc_term.specs.declared.formula.Formula.{Formula}
use Rattle.esc_term.specs.declared.formula.Formula.TheOpen.{Formula-F, Quant-F}
use Rattle.esc_term.specs.declared.formula.Formula.TheViews.{roll-Formula, roll-Quant}
use Rattle.esc_term.specs.declared.formula.Formula.TheFolds.{map-Formula, map-Quant, ind-Formula}
use Rattle.esc_term.specs.declared.formula.Quant.{Quant}
use Rattle.esc_fact.specs.Base.{Quantified, formulas_in, quantified_in, quantified_under}
use Rattle.esc_fact.specs.declared.base.Base.{Base}
use Rattle.esc_fact.proofs.Quantifiers.{under-True, under-False, under-And, under-Or, under-Not}
use Rattle.esc_fact.proofs.Quantifiers.{under-Implies, under-Iff, under-Forall, under-Exists}
use Rattle.esc_fact.proofs.Quantifiers.{under-Eq, under-Less, under-Distinct, under-LabelPos}
use Rattle.esc_fact.proofs.Quantifiers.{under-LabelNeg}

-- the first list stands in the second one from the place on
abbrev pub Stands : List Quantified → ℕ → List Quantified → Type 0
Stands qs start all =
    (j : ℕ) (q : Quantified) → slice_get qs j ≡ Some q → slice_get all (start + j) ≡ Some q

abbrev pub inside : Quantified → List Quantified
inside q = quantified_under q.quant.body (q.outer + q.quant.count)

-- after each stand those in its body
abbrev pub IsNested : List Quantified → Type 0
IsNested qs = (i : ℕ) (q : Quantified) → slice_get qs i ≡ Some q → Stands (inside q) (suc i) qs

pub get_first : {X : Type 0} (xs ys : List X) (k : ℕ) (x : X) → slice_get xs k ≡ Some x
    → slice_get (xs ++ ys) k ≡ Some x
get_first [] ys k x e = cc
get_first (y ∷ xs) ys zero x e = e
get_first (y ∷ xs) ys (suc k) x e = get_first xs ys k x e

pub get_after : {X : Type 0} (xs ys : List X) (k : ℕ) (x : X) → slice_get ys k ≡ Some x
    → slice_get (xs ++ ys) (length xs + k) ≡ Some x
get_after [] ys k x e = let here : k ≡ 0 + k = omega arith in
    subst (λ n. slice_get ys n ≡ Some x) here e
get_after (y ∷ xs) ys k x e =
    let here : suc (length xs + k) ≡ suc (length xs) + k = omega arith in
    subst (λ n. slice_get (y ∷ xs ++ ys) n ≡ Some x) here (get_after xs ys k x e)

get_split : {X : Type 0} (xs ys : List X) (i : ℕ) (x : X) → slice_get (xs ++ ys) i ≡ Some x
    → (slice_get xs i ≡ Some x) ⊎ ((k : ℕ) × (length xs + k ≡ i) × (slice_get ys k ≡ Some x))
get_split [] ys i x e = inr (i, omega arith, e)
get_split (y ∷ xs) ys zero x e = inl e
get_split (y ∷ xs) ys (suc i) x e =
    elim (get_split xs ys i x e) [
      | inl h ↦ inl h
      | inr h ↦ inr (h.0, omega (arith, h.1), h.2)
    ]

nested_both : (xs ys : List Quantified) → IsNested xs → IsNested ys → IsNested (xs ++ ys)
nested_both xs ys p q i r e j s f =
    elim (get_split xs ys i r e) [
      | inl h ↦ get_first xs ys (suc i + j) s (p i r h j s f)
      | inr h ↦
          let place : length xs + (suc h.0 + j) ≡ suc i + j = omega (arith, h.1) in
          subst (λ n. slice_get (xs ++ ys) n ≡ Some s) place
          (get_after xs ys (suc h.0 + j) s (q h.0 r h.2 j s f))
    ]

nested_from : (q : Quantified) → IsNested (inside q) → IsNested (q ∷ inside q)
nested_from q p zero r e j s f =
    let same : q ≡ r = cc in
    let place : suc j ≡ suc zero + j = omega arith in
    subst (λ n. slice_get (q ∷ inside q) n ≡ Some s) place
    (subst (λ p. slice_get (inside p) j ≡ Some s) (sym same) f)
nested_from q p (suc i) r e j s f =
    let place : suc (suc i + j) ≡ suc (suc i) + j = omega arith in
    subst (λ n. slice_get (q ∷ inside q) n ≡ Some s) place (p i r e j s f)

nested_none : IsNested []
nested_none i q e = cc

abbrev Nested : Formula → Type 0
Nested f = (d : ℕ) → IsNested (quantified_under f d)

abbrev NestedQuant : Quant → Type 0
NestedQuant q = Nested q.body

nested_all : (d : ℕ) (es : List ((f : Formula) × Nested f))
    → IsNested (flat_map (λ f. quantified_under f d) (map (λ e. e.0) es))
nested_all d [] = nested_none
nested_all d (e ∷ es) =
    nested_both (quantified_under e.0 d)
    (flat_map (λ f. quantified_under f d) (map (λ e. e.0) es)) (e.1 d) (nested_all d es)

form_at : (y : Formula-F ((f : Formula) × Nested f) ((q : Quant) × NestedQuant q))
    → Nested (roll-Formula (map-Formula ((f : Formula) × Nested f) ((q : Quant) × NestedQuant q)
    Formula Quant (λ e. e.0) (λ e. e.0) y))
unfolding roll-Formula roll
form_at Formula-F.True d =
    subst IsNested (sym (under-True d))
    nested_none
form_at Formula-F.False d =
    subst IsNested (sym (under-False d))
    nested_none
form_at (Formula-F.And es) d =
    subst IsNested (sym (under-And d (map (λ e. e.0) es)))
    (nested_all d es)
form_at (Formula-F.Or es) d =
    subst IsNested (sym (under-Or d (map (λ e. e.0) es)))
    (nested_all d es)
form_at (Formula-F.Not e) d =
    subst IsNested (sym (under-Not d e.0))
    (e.1 d)
form_at (Formula-F.Implies l r) d =
    subst IsNested (sym (under-Implies d l.0 r.0))
    (nested_both (quantified_under l.0 d) (quantified_under r.0 d) (l.1 d) (r.1 d))
form_at (Formula-F.Iff l r) d =
    subst IsNested (sym (under-Iff d l.0 r.0))
    (nested_both (quantified_under l.0 d) (quantified_under r.0 d) (l.1 d) (r.1 d))
form_at (Formula-F.Forall q) d =
    subst IsNested (sym (under-Forall d q.0))
    (nested_from (record { universal = true; quant = q.0; outer = d })
    (q.1 (d + q.0.count)))
form_at (Formula-F.Exists q) d =
    subst IsNested (sym (under-Exists d q.0))
    (nested_from (record { universal = false; quant = q.0; outer = d })
    (q.1 (d + q.0.count)))
form_at (Formula-F.Eq s t) d =
    subst IsNested (sym (under-Eq d s t))
    nested_none
form_at (Formula-F.Less s t) d =
    subst IsNested (sym (under-Less d s t))
    nested_none
form_at (Formula-F.Distinct ts) d =
    subst IsNested (sym (under-Distinct d ts))
    nested_none
form_at (Formula-F.LabelPos name e) d =
    subst IsNested (sym (under-LabelPos d name e.0))
    (e.1 d)
form_at (Formula-F.LabelNeg name e) d =
    subst IsNested (sym (under-LabelNeg d name e.0))
    (e.1 d)

quant_at : (y : Quant-F ((f : Formula) × Nested f) ((q : Quant) × NestedQuant q))
    → NestedQuant (roll-Quant (map-Quant ((f : Formula) × Nested f) ((q : Quant) × NestedQuant q)
    Formula Quant (λ e. e.0) (λ e. e.0) y))
unfolding roll
quant_at y = y.body.1

nested_under : (f : Formula) → Nested f
nested_under =
    ind-Formula Nested NestedQuant (λ x y is. subst (λ z. Nested (roll-Formula z)) is (form_at y))
    (λ x y is. subst (λ z. NestedQuant (roll-Quant z)) is (quant_at y))

nested_in : (fs : List Formula) → IsNested (flat_map (λ f. quantified_under f 0) fs)
nested_in [] = nested_none
nested_in (f ∷ fs) =
    nested_both (quantified_under f 0) (flat_map (λ f. quantified_under f 0) fs) (nested_under f 0)
    (nested_in fs)

-- those in the body of one of a base have the numbers after its own
pub body_stands : (base : Base) (n : ℕ) (q : Quantified)
    → slice_get (quantified_in base) n ≡ Some q → Stands (inside q) (suc n) (quantified_in base)
body_stands base n q at = nested_in (formulas_in base) n q at
