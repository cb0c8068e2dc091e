-- What the calls that keep the formulas of a fact have kept.
use Rattle.std.proofs.Common.{◌≡◌, inl, inr, ℕ, suc, ◌+◌, ◌≤◌, Bool, true, false, not, List, []}
use Rattle.std.proofs.Common.{◌∷◌}
use Rattle.std.proofs.Common.{if◌then◌else◌, ◌++◌, map, length, take, Some, refl, ap, sym, subst}
use Rattle.std.proofs.Common.{◌∙◌}
use Rattle.std.proofs.Common.{arith}
use Rattle.std.proofs.lemmas.List.{append_assoc, length-append, take-append-le}
use Rattle.std.proofs.lemmas.List.FromFn.{map-range_with_len_more}
use Rattle.std.specs.List.{AllZip, cons_option, flat_map, range_with_len}
use Rattle.std.specs.Option.{option_map_or}
use Rattle.std.specs.Prelude.{slice_get}
use Rattle.esc_term.specs.declared.term.Term.{Term}
use Rattle.esc_term.specs.declared.formula.Formula.{Formula}
use Rattle.esc_term.specs.declared.formula.Formula.TheOpen.{Formula-F}
use Rattle.esc_term.specs.declared.formula.Formula.TheViews.{out-Formula, out-roll-Formula}
use Rattle.esc_term.specs.declared.formula.Formula.TheViews.{roll-Formula}
use denote.Hole.Carrier.{roll}
use Rattle.esc_term.specs.declared.formula.Formula.TheVariants.{Forall, Exists, Implies, Not}
use Rattle.esc_term.specs.declared.formula.Quant.{Quant}
use Rattle.esc_term.specs.Formula.{substituted_quant}
use Rattle.esc_fact.specs.Base.{Quantified, formulas_in, quantified_in, quantified_under, whole}
use Rattle.esc_fact.specs.Fact.{body_at, brings, closed_at, formula_of, instance_of, skolem_of}
use Rattle.esc_fact.specs.Fact.{skolem_terms}
use Rattle.esc_fact.specs.declared.base.Base.{Base}
use Rattle.esc_fact.specs.declared.fact.Fact.TheVariants as fact
use Rattle.esc_rounds.specs.Origins.{Origin, origins_at, origins_in, origins_inside}
use Rattle.esc_rounds.specs.Origins.{outermost}
use Rattle.esc_standing.specs.Keeping.{IsBrought, Keeps, KeepsBrought, marked, outer_atoms}
use Rattle.esc_standing.specs.declared.formulas.KeptFormulas.{KeptFormulas}
use Rattle.esc_standing.proofs.FactOrigins.{closed_form, from_map, origins_at-is, start_at}
use Rattle.esc_standing.proofs.KeepingFacts.{same_whole}
use Rattle.esc_standing.proofs.Marks.{as_many_marks}
use Rattle.esc_standing.proofs.NamedAtTerms.{IsNamed, unmarked}
use Rattle.esc_standing.proofs.OutermostAtTerms.{outermost_at_terms}
use Rattle.esc_standing.proofs.OutermostLevels.{outermost-Not}
use Rattle.esc_standing.proofs.WalkSteps.{IsOver, keeps_then, marks_over, outer-Implies}

-- ---- a formula of the base

marks_many : (fs : List Formula) → length (flat_map outermost fs)
    ≡ length (flat_map (λ f. quantified_under f 0) fs)
marks_many [] = refl
marks_many (f ∷ fs) =
    length-append (outermost f) (flat_map outermost fs)
    ∙ ap (λ n. n + length (flat_map outermost fs)) (as_many_marks f 0)
    ∙ ap (λ n. length (quantified_under f 0) + n) (marks_many fs)
    ∙ sym (length-append (quantified_under f 0) (flat_map (λ f. quantified_under f 0) fs))

pub given_origins : (base : Base) (k n : ℕ) (f : Formula) → k ≤ length base.background
    → slice_get (formulas_in base) k ≡ Some f
    → n ≡ 0 + length (flat_map outermost (take k base.background))
    → marked n [] (outermost f) ≡ origins_at base k
given_origins base k n f within at is =
    let number : n ≡ start_at base k =
    is ∙ omega arith ∙ marks_many (take k base.background)
    ∙ ap (λ fs. length (flat_map (λ f. quantified_under f 0) fs))
    (sym (take-append-le k base.background (cons_option base.negated []) within)) in
    ap (λ i. marked i [] (outermost f)) number ∙ sym (origins_at-is base k f at)

-- ---- what is brought

out_implies : (f g : Formula) → out-Formula (Implies f g) ≡ Formula-F.Implies f g
unfolding roll-Formula roll
out_implies f g = out-roll-Formula (Formula-F.Implies f g)

implies_same : (a b f g : Formula) → Implies a b ≡ Implies f g → (f ≡ a) × (g ≡ b)
implies_same a b f g e =
    let same : Formula-F.Implies a b ≡ Formula-F.Implies f g =
    sym (out_implies a b) ∙ ap out-Formula e ∙ out_implies f g in
    (cc, cc)

side_marks : (u : Bool) (a b f g : Formula) → brings u a b ≡ Implies f g
    → (outermost f ≡ outermost a) × (outermost g ≡ outermost b)
side_marks true a b f g e =
    let s = implies_same a b f g e in (ap outermost s.0, ap outermost s.1)
side_marks false a b f g e =
    let s = implies_same (Not a) (Not b) f g e in
    (ap outermost s.0 ∙ outermost-Not a, ap outermost s.1 ∙ outermost-Not b)

pub brought_form : (u : Bool) (a b : Formula)
    → ((f g : Formula) → brings u a b ≡ Implies f g → ⊥) → ⊥
brought_form true a b none = none a b refl
brought_form false a b none = none (Not a) (Not b) refl

pub keeps_brought : (depth n m : ℕ) (us inside : List Term) (h f g : Formula)
    (x y z : KeptFormulas) (b : IsBrought us inside h) → h ≡ Implies f g → m ≡ n + 1
    → Keeps depth (marked n us (outermost f)) (outer_atoms f) x y
    → Keeps depth (marked m inside (outermost g)) (outer_atoms g) y z
    → Keeps depth (origins_inside n us b.terms b.q) (outer_atoms h) x z
keeps_brought depth n m us inside h f g x y z b is next k l =
    let s = side_marks b.holds (closed_at b.q us) (body_at b.q us b.terms) f g (sym b.is ∙ is) in
    let first : marked n us (outermost f) ≡ record { number = n; outer = us } ∷ [] =
    ap (marked n us) (s.0 ∙ marks_over (closed_at b.q us) (substituted_quant us b.q.quant 0)
    (closed_form b.q us))
    ∙ ap (λ os. record { number = n; outer = us } ∷ os)
    (unmarked (n + 1) us (outermost (substituted_quant us b.q.quant 0).body)) in
    let number : m ≡ suc n = next ∙ omega arith in
    let rest : marked m inside (outermost g)
    ≡ marked (suc n) (us ++ b.terms) (outermost b.q.quant.body) =
    ap (λ i. marked i inside (outermost g)) number
    ∙ ap (λ ts. marked (suc n) ts (outermost g)) b.joined
    ∙ ap (marked (suc n) (us ++ b.terms))
    (s.1 ∙ outermost_at_terms (us ++ b.terms) b.q.quant.body 0) in
    subst (λ os. Keeps depth os (outer_atoms h) x z)
    (ap (λ os. os ++ marked m inside (outermost g)) first
    ∙ ap (λ os. record { number = n; outer = us } ∷ os) rest)
    (subst (λ fs. Keeps depth (marked n us (outermost f) ++ marked m inside (outermost g)) fs x z)
    (sym (ap outer_atoms is ∙ outer-Implies f g))
    (keeps_then depth (marked n us (outermost f)) (marked m inside (outermost g))
    (outer_atoms f) (outer_atoms g) x y z k l))

-- ---- facts

module _ (base : Base) (n : ℕ) (us : List Term) (f : Formula) where
  module _ (ts inside : List Term) (at : formula_of base (fact.Inst n us ts) ≡ Some f)
      (joined : inside ≡ us ++ ts) where
    pub inst_brought : IsBrought us inside f
    inst_brought =
        let found = from_map (λ q. instance_of q us ts) (slice_get (quantified_in base) n) f at in
        record {
          q = found.0;
          terms = ts;
          holds = found.0.universal;
          joined = joined;
          is = sym found.2;
        }

    pub inst_keeps : (depth : ℕ) (x y : KeptFormulas) → KeepsBrought depth n us inside f x y
        → Keeps depth (origins_in base (fact.Inst n us ts)) (outer_atoms f) x y
    unfolding inst_brought
    inst_keeps depth x y k =
        let found = from_map (λ q. instance_of q us ts) (slice_get (quantified_in base) n) f at in
        subst (λ os. Keeps depth os (outer_atoms f) x y)
        (sym (ap (λ o. option_map_or (origins_inside n us ts) o []) found.1)) (k inst_brought)

  module _ (at : formula_of base (fact.Skolem n us) ≡ Some f) where
    pub skolem_named : (q : Quantified) × (slice_get (quantified_in base) n ≡ Some q)
    skolem_named =
        let found = from_map (λ q. skolem_of n q us) (slice_get (quantified_in base) n) f at in
        (found.0, found.1)

    module _ (inside : List Term)
        (joined : inside ≡ us ++ skolem_terms n skolem_named.0 us) where
      pub skolem_brought : IsBrought us inside f
      unfolding skolem_named
      skolem_brought =
          let found = from_map (λ q. skolem_of n q us) (slice_get (quantified_in base) n) f at in
          record {
            q = found.0;
            terms = skolem_terms n found.0 us;
            holds = not found.0.universal;
            joined = joined;
            is = sym found.2;
          }

      pub skolem_keeps : (depth : ℕ) (x y : KeptFormulas)
          → KeepsBrought depth n us inside f x y
          → Keeps depth (origins_in base (fact.Skolem n us)) (outer_atoms f) x y
      unfolding skolem_named skolem_brought
      skolem_keeps depth x y k =
          subst (λ os. Keeps depth os (outer_atoms f) x y)
          (sym (ap (λ o. option_map_or (λ q. origins_inside n us (skolem_terms n q us) q) o [])
          skolem_named.1)) (k skolem_brought)

-- a fact whose formula has no quantified formulas keeps none
pub keeps_none : (base : Base) (depth : ℕ) (os : List Origin) (fs : List Formula)
    (x : KeptFormulas) → os ≡ [] → AllZip (IsNamed base) os fs → Keeps depth os fs x x
keeps_none base depth [] [] x none zip = refl
keeps_none base depth [] (f ∷ fs) x none zip = absurd zip
keeps_none base depth (o ∷ os) fs x none zip = cc

-- ---- quantified formulas

pub count_is : (q : Quantified) (f : Formula) (p : Quant) → whole q ≡ f → IsOver f p
    → p.count ≡ q.quant.count
count_is q f p is (inl e) =
    let s = same_whole q.universal true q.quant p (is ∙ e) in ap (λ r. r.count) (sym s.1)
count_is q f p is (inr e) =
    let s = same_whole q.universal false q.quant p (is ∙ e) in ap (λ r. r.count) (sym s.1)

pub either_form : (q : Quantified) (f : Formula) → whole q ≡ f
    → ((p : Quant) → f ≡ Forall p → ⊥) → ((p : Quant) → f ≡ Exists p → ⊥) → ⊥
either_form q f is no_all no_some = by q.universal refl
  where
    by : (u : Bool) → q.universal ≡ u → ⊥
    by true e = no_all q.quant
        (sym is ∙ ap (λ v. if v then Forall q.quant else Exists q.quant) e)
    by false e = no_some q.quant
        (sym is ∙ ap (λ v. if v then Forall q.quant else Exists q.quant) e)

pub own_more : {X : Type 0} (g : ℕ → X) (us : List X) (i : ℕ) (xs : List X) (t : X)
    → xs ≡ us ++ map g (range_with_len 0 i) → t ≡ g i
    → xs ++ t ∷ [] ≡ us ++ map g (range_with_len 0 (i + 1))
own_more g us i xs t before last =
    ap (λ ys. ys ++ t ∷ []) before
    ∙ append_assoc us (map g (range_with_len 0 i)) (t ∷ [])
    ∙ ap (λ y. us ++ (map g (range_with_len 0 i) ++ y ∷ [])) last
    ∙ ap (λ ys. us ++ ys) (sym (map-range_with_len_more g 0 i i (omega arith)))
