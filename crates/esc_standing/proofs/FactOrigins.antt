-- The quantified atoms of a fact's formula are what the origins in the fact name, in order.
use Rattle.std.proofs.Common.{◌≡◌, inl, inr, ℕ, zero, suc, ◌+◌, Bool, true, false, not}
use Rattle.std.proofs.Common.{if◌then◌else◌, List, [], ◌∷◌, ◌++◌, map, length, take, Option, Some}
use Rattle.std.proofs.Common.{None, option_map, refl, ap, sym, subst, ◌∙◌, arith, IsTrue}
use Rattle.std.proofs.lemmas.Bool.{and_parts, and_from}
use Rattle.std.proofs.lemmas.List.{length-append}
use Rattle.std.proofs.lemmas.List.Folds.{list_all-append}
use Rattle.std.proofs.lemmas.List.FromFn.{length-map-range_with_len}
use Rattle.std.specs.List.{AllZip, cons_option, flat_map, list_all, range_with_len}
use Rattle.std.specs.Option.{option_map_or}
use Rattle.std.specs.Prelude.{slice_get}
use Rattle.esc_term.specs.declared.term.Head.TheVariants.{Skolem}
use Rattle.esc_term.specs.declared.term.Term.{Term}
use Rattle.esc_term.specs.declared.term.Term.TheVariants.{App}
use Rattle.esc_term.specs.declared.formula.Formula.{Formula}
use Rattle.esc_term.specs.declared.formula.Formula.TheVariants.{Eq, Forall, Exists, Not}
use Rattle.esc_term.specs.Formula.{substituted, substituted_quant}
use Rattle.esc_term.specs.Term.{is_ground}
use Rattle.esc_term.proofs.FormulaLevels.{substituted_to-Forall, substituted_to-Exists}
use Rattle.esc_term.proofs.GroundTerms.{is_ground-App}
use Rattle.esc_fact.specs.Base.{Quantified, formulas_in, quantified_in, quantified_under}
use Rattle.esc_fact.specs.Fact.{IsFact, body_at, brings, closed_at, formula_of, instance_of}
use Rattle.esc_fact.specs.Fact.{kept_of}
use Rattle.esc_fact.specs.Fact.{select, skolem_of, skolem_terms, store, written_of}
use Rattle.esc_fact.specs.declared.base.Base.{Base}
use Rattle.esc_fact.specs.declared.fact.Fact.{Fact}
use Rattle.esc_fact.specs.declared.fact.Fact.TheVariants as fact
use Rattle.esc_rounds.specs.Origins.{origins_at, origins_from, origins_in, origins_inside}
use Rattle.esc_standing.specs.Keeping.{outer_atoms}
use Rattle.esc_standing.proofs.NamedAtTerms.{IsNamed, names_at_terms}
use Rattle.esc_standing.proofs.NestedQuantified.{Stands, body_stands, get_after, get_first}
use Rattle.esc_standing.proofs.NoTerms.{at_no_terms}
use Rattle.esc_standing.proofs.WalkSteps.{IsOver, atoms_over, outer-Eq, outer-Implies, outer-Not}
use Rattle.esc_standing.proofs.WalkSteps.{outer-Or, outer_atoms-is}

-- ---- formulas of the base

formula_stands : (fs : List Formula) (k : ℕ) (f : Formula) → slice_get fs k ≡ Some f
    → Stands (quantified_under f 0) (length (flat_map (λ f. quantified_under f 0) (take k fs)))
    (flat_map (λ f. quantified_under f 0) fs)
formula_stands [] k f e j q at = cc
formula_stands (g ∷ fs) zero f e j q at =
    let same : g ≡ f = cc in
    let here : j ≡ 0 + j = omega arith in
    subst (λ n. slice_get (flat_map (λ f. quantified_under f 0) (g ∷ fs)) n ≡ Some q) here
    (get_first (quantified_under g 0) (flat_map (λ f. quantified_under f 0) fs) j q
    (subst (λ h. slice_get (quantified_under h 0) j ≡ Some q) (sym same) at))
formula_stands (g ∷ fs) (suc k) f e j q at =
    let rest = length (flat_map (λ f. quantified_under f 0) (take k fs)) in
    let all = length-append (quantified_under g 0)
    (flat_map (λ f. quantified_under f 0) (take k fs)) in
    let here : length (quantified_under g 0) + (rest + j)
    ≡ length (quantified_under g 0 ++ flat_map (λ f. quantified_under f 0) (take k fs)) + j =
    omega (arith, all) in
    subst (λ n. slice_get (flat_map (λ f. quantified_under f 0) (g ∷ fs)) n ≡ Some q) here
    (get_after (quantified_under g 0) (flat_map (λ f. quantified_under f 0) fs) (rest + j) q
    (formula_stands fs k f e j q at))

abbrev pub start_at : Base → ℕ → ℕ
start_at base k = length (flat_map (λ f. quantified_under f 0) (take k (formulas_in base)))

pub origins_at-is : (base : Base) (k : ℕ) (f : Formula) → slice_get (formulas_in base) k ≡ Some f
    → origins_at base k ≡ origins_from (start_at base k) [] f
origins_at-is base k f at =
    ap (λ o. option_map_or (origins_from (start_at base k) []) o []) at

pub given_there : (base : Base) (k : ℕ) (f : Formula) → slice_get base.background k ≡ Some f
    → slice_get (formulas_in base) k ≡ Some f
given_there base k f at = get_first base.background (cons_option base.negated []) k f at

pub negated_there : (base : Base) (f : Formula) → base.negated ≡ Some f
    → slice_get (formulas_in base) (length base.background) ≡ Some f
negated_there base f at =
    let here : length base.background + 0 ≡ length base.background = omega arith in
    subst (λ n. slice_get (formulas_in base) n ≡ Some f) here
    (get_after base.background (cons_option base.negated []) 0 f
    (ap (λ o. slice_get (cons_option o []) 0) at))

names_place : (base : Base) (k : ℕ) (f : Formula) → slice_get (formulas_in base) k ≡ Some f
    → AllZip (IsNamed base) (origins_at base k) (outer_atoms f)
names_place base k f at =
    subst (λ os. AllZip (IsNamed base) os (outer_atoms f)) (sym (origins_at-is base k f at))
    (subst (AllZip (IsNamed base) (origins_from (start_at base k) [] f))
    (sym (outer_atoms-is (substituted [] f)) ∙ ap outer_atoms (at_no_terms f 0))
    (names_at_terms base [] refl f (start_at base k)
    (formula_stands (formulas_in base) k f at)))

-- ---- what quantified formulas bring

pub closed_form : (q : Quantified) (us : List Term)
    → IsOver (closed_at q us) (substituted_quant us q.quant 0)
closed_form q us = by q.universal refl
  where
    by : (u : Bool) → q.universal ≡ u → IsOver (closed_at q us) (substituted_quant us q.quant 0)
    by true e =
        inl (ap (λ v. substituted us (if v then Forall q.quant else Exists q.quant)) e
        ∙ substituted_to-Forall us 0 q.quant)
    by false e =
        inr (ap (λ v. substituted us (if v then Forall q.quant else Exists q.quant)) e
        ∙ substituted_to-Exists us 0 q.quant)

pub brings_atoms : (u : Bool) (f part : Formula)
    → outer_atoms (brings u f part) ≡ outer_atoms f ++ outer_atoms part
brings_atoms true f part = outer-Implies f part
brings_atoms false f part =
    outer-Implies (Not f) (Not part) ∙ ap (λ fs. fs ++ outer_atoms (Not part)) (outer-Not f)
    ∙ ap (λ fs. outer_atoms f ++ fs) (outer-Not part)

names_brought : (base : Base) (n : ℕ) (us ts : List Term) (q : Quantified) (u : Bool)
    → slice_get (quantified_in base) n ≡ Some q → length us ≡ q.outer
    → length ts ≡ q.quant.count → IsTrue (list_all is_ground us) → IsTrue (list_all is_ground ts)
    → AllZip (IsNamed base) (origins_inside n us ts q)
    (outer_atoms (brings u (closed_at q us) (body_at q us ts)))
names_brought base n us ts q u at many more us_ground ts_ground =
    let all : length (us ++ ts) ≡ q.outer + q.quant.count =
    length-append us ts ∙ ap (λ k. k + length ts) many ∙ ap (λ k. q.outer + k) more in
    let grounds : list_all is_ground (us ++ ts) ≡ true =
    list_all-append is_ground us ts ∙ and_from _ _ us_ground ts_ground in
    subst (AllZip (IsNamed base) (origins_inside n us ts q))
    (sym (brings_atoms u (closed_at q us) (body_at q us ts)
    ∙ ap (λ fs. fs ++ outer_atoms (body_at q us ts))
    (atoms_over (closed_at q us) (substituted_quant us q.quant 0) (closed_form q us)))) (
      record { q = q; numbered = at; is = refl; as_many = many; grounded = us_ground },
      subst (AllZip (IsNamed base) (origins_from (suc n) (us ++ ts) q.quant.body))
          (sym (outer_atoms-is (body_at q us ts)))
          (names_at_terms base (us ++ ts) grounds q.quant.body (suc n)
          (subst (λ d. Stands (quantified_under q.quant.body d) (suc n) (quantified_in base))
          (sym all)
          (body_stands base n q at))),
    )

own_ground : (n : ℕ) (us : List Term) (places : List ℕ) → list_all is_ground us ≡ true
    → list_all is_ground (map (λ i. App (Skolem n i) us) places) ≡ true
own_ground n us [] g = refl
own_ground n us (i ∷ places) g =
    and_from _ _ (is_ground-App (Skolem n i) us ∙ g) (own_ground n us places g)

-- ---- facts

pub from_map : {X Y : Type 0} (g : X → Y) (o : Option X) (y : Y) → option_map g o ≡ Some y
    → (x : X) × (o ≡ Some x) × (g x ≡ y)
from_map g None y e = cc
from_map g (Some x) y e = (x, refl, cc)

names_none : (base : Base) (f g : Formula) → Some g ≡ Some f → outer_atoms g ≡ []
    → AllZip (IsNamed base) [] (outer_atoms f)
names_none base f g e none =
    let same : g ≡ f = cc in
    subst (AllZip (IsNamed base) []) (sym none ∙ ap outer_atoms same) tt

-- the origins in a fact name the quantified atoms of its formula, in order
pub names_fact : (base : Base) (x : Fact) (f : Formula) → IsFact base x
    → formula_of base x ≡ Some f → AllZip (IsNamed base) (origins_in base x) (outer_atoms f)
names_fact base (fact.Given k) f is at = names_place base k f (given_there base k f at)
names_fact base fact.NegGoal f is at =
    names_place base (length base.background) f (negated_there base f at)
names_fact base (fact.Inst n us ts) f is at =
    let found = from_map (λ q. instance_of q us ts) (slice_get (quantified_in base) n) f at in
    let counts = is.counts found.0 found.1 in
    let grounds = and_parts _ _ (sym (list_all-append is_ground us ts) ∙ is.grounded) in
    subst (λ os. AllZip (IsNamed base) os (outer_atoms f))
    (sym (ap (λ o. option_map_or (origins_inside n us ts) o []) found.1))
    (subst (λ g. AllZip (IsNamed base) (origins_inside n us ts found.0) (outer_atoms g)) found.2
    (names_brought base n us ts found.0 found.0.universal found.1 counts.0 counts.1
    grounds.0 grounds.1))
names_fact base (fact.Skolem n us) f is at =
    let found = from_map (λ q. skolem_of n q us) (slice_get (quantified_in base) n) f at in
    let q = found.0 in
    subst (λ os. AllZip (IsNamed base) os (outer_atoms f))
    (sym (ap (λ o. option_map_or (λ q. origins_inside n us (skolem_terms n q us) q) o [])
    found.1))
    (subst (λ g. AllZip (IsNamed base) (origins_inside n us (skolem_terms n q us) q)
    (outer_atoms g)) found.2
    (names_brought base n us (skolem_terms n q us) q (not q.universal) found.1
    (is.counts q found.1)
    (length-map-range_with_len (λ i. App (Skolem n i) us) 0 q.quant.count) is.grounded
    (own_ground n us (range_with_len 0 q.quant.count) is.grounded)))
names_fact base (fact.Map1 m i x) f is at =
    names_none base f (written_of m i x) at (outer-Eq _ _)
names_fact base (fact.Map2 m i x j) f is at =
    names_none base f (kept_of m i x j) at
    (outer-Or (Eq i j ∷ Eq (select (store m i x) j) (select m j) ∷ [])
    ∙ ap (λ fs. fs ++ (outer_atoms (Eq (select (store m i x) j) (select m j)) ++ [])) (outer-Eq i j)
    ∙ ap (λ fs. fs ++ []) (outer-Eq (select (store m i x) j) (select m j)))
