-- Where the quantified formulas of some facts are kept, keeping those of one more keeps all.
use Rattle.std.proofs.Common.{◌≡◌, inl, inr, ℕ, zero, suc, Bool, true, false}
use Rattle.std.proofs.Common.{if◌then◌else◌, cond, List, [], ◌∷◌, ◌++◌}
use Rattle.std.proofs.Common.{Some, refl, ap, sym, subst, ◌∙◌, arith}
use Rattle.std.specs.List.{AllZip, Any, Contains, filter, find}
use Rattle.std.specs.Option.{option_map_or}
use Rattle.std.specs.Prelude.{slice_get}
use denote.Hole.Carrier.{roll}
use Rattle.esc_term.specs.declared.term.Term.{Term}
use Rattle.esc_term.specs.declared.formula.Formula.{Formula}
use Rattle.esc_term.specs.declared.formula.Formula.TheOpen.{Formula-F}
use Rattle.esc_term.specs.declared.formula.Formula.TheViews.{out-Formula, out-roll-Formula}
use Rattle.esc_term.specs.declared.formula.Formula.TheViews.{roll-Formula}
use Rattle.esc_term.specs.declared.formula.Formula.TheVariants.{Forall, Exists}
use Rattle.esc_term.specs.declared.formula.Quant.{Quant}
use Rattle.esc_term.specs.Equal.{same_formula}
use Rattle.esc_term.specs.Formula.{substituted, substituted_quant}
use Rattle.esc_term.proofs.FormulaLevels.{substituted_to-Exists}
use Rattle.esc_term.proofs.FormulaLevels.{substituted_to-Forall}
use Rattle.esc_term.proofs.Members.{Contains-cases, Contains-here}
use Rattle.esc_term.proofs.Members.{Contains-later, Contains-none}
use Rattle.esc_fact.specs.Base.{Quantified}
use Rattle.esc_fact.specs.Depth.{Deep, first_depth}
use Rattle.esc_fact.specs.Fact.{closed_at}
use Rattle.esc_fact.specs.declared.base.Base.{Base}
use Rattle.esc_rounds.specs.Branch.{formula_kept}
use Rattle.esc_rounds.specs.Origins.{Origin, is_origin_of}
use Rattle.esc_rounds.specs.declared.kept.Kept.{Kept}
use Rattle.esc_rounds.proofs.ShallowRounds.{formulas}
use Rattle.esc_standing.specs.Formulas.{AreBeside}
use Rattle.esc_standing.specs.Keeping.{IsClosedKept}
use Rattle.esc_standing.specs.declared.formulas.KeptFormulas.{KeptFormulas}
use Rattle.esc_standing.proofs.KeptPlaces.{place_there}
use Rattle.esc_standing.proofs.NamedAtTerms.{IsNamed}

-- ---- lists

pub filter_has : {X : Type 0} (p : X → Bool) (xs : List X) (x : X) → Contains (filter p xs) x
    → Contains xs x × (p x ≡ true)
filter_has p [] x h = absurd (Contains-none x h)
filter_has p (y ∷ ys) x h = by (p y) refl (λ rest. filter_has p ys x rest)
  where
    by : (b : Bool) → p y ≡ b → (Contains (filter p ys) x → Contains ys x × (p x ≡ true))
        → Contains (y ∷ ys) x × (p x ≡ true)
    by true e inside =
        elim (Contains-cases y (filter p ys) x
        (subst (λ c. Contains (cond c (y ∷ filter p ys) (filter p ys)) x) e h)) [
          | inl same ↦
              (subst (Contains (y ∷ ys)) same (Contains-here y ys), ap p (sym same) ∙ e)
          | inr later ↦ let rest = inside later in (Contains-later y ys x rest.0, rest.1)
        ]
    by false e inside =
        let rest = inside (subst (λ c. Contains (cond c (y ∷ filter p ys) (filter p ys)) x) e h) in
        (Contains-later y ys x rest.0, rest.1)

pub filter_in : {X : Type 0} (p : X → Bool) (xs : List X) (x : X) → Contains xs x → p x ≡ true
    → Contains (filter p xs) x
filter_in p [] x h e = absurd (Contains-none x h)
filter_in p (y ∷ ys) x h e =
    elim (Contains-cases y ys x h) [
      | inl same ↦ subst (λ c. Contains (cond c (y ∷ filter p ys) (filter p ys)) x)
          (sym (ap p same ∙ e))
          (subst (Contains (y ∷ filter p ys)) same (Contains-here y (filter p ys)))
      | inr later ↦ by (p y) (filter_in p ys x later e)
    ]
  where
    by : (b : Bool) → Contains (filter p ys) x
        → Contains (cond b (y ∷ filter p ys) (filter p ys)) x
    by true rest = Contains-later y (filter p ys) x rest
    by false rest = rest

pub zip_left : {A B : Type 0} (R : A → B → Type 0) (xs : List A) (ys : List B) (x : A)
    → AllZip R xs ys → Contains xs x → (y : B) × R x y × Contains ys y
zip_left R [] ys x z h = absurd (Contains-none x h)
zip_left R (a ∷ xs) [] x z h = absurd z
zip_left R (a ∷ xs) (b ∷ ys) x z h =
    elim (Contains-cases a xs x h) [
      | inl same ↦ (b, subst (λ w. R w b) same z.0, Contains-here b ys)
      | inr later ↦ let rest = zip_left R xs ys x z.1 later in
          (rest.0, rest.1, Contains-later b ys rest.0 rest.2)
    ]

pub zip_right : {A B : Type 0} (R : A → B → Type 0) (xs : List A) (ys : List B) (y : B)
    → AllZip R xs ys → Contains ys y → (x : A) × R x y × Contains xs x
zip_right R xs [] y z h = absurd (Contains-none y h)
zip_right R [] (b ∷ ys) y z h = absurd z
zip_right R (a ∷ xs) (b ∷ ys) y z h =
    elim (Contains-cases b ys y h) [
      | inl same ↦ (a, subst (R a) same z.0, Contains-here a xs)
      | inr later ↦ let rest = zip_right R xs ys y z.1 later in
          (rest.0, rest.1, Contains-later a xs rest.0 rest.2)
    ]

pub zip_weaker : {A B : Type 0} (R S : A → B → Type 0) (xs : List A) (ys : List B)
    → ((x : A) (y : B) → Contains ys y → R x y → S x y) → AllZip R xs ys → AllZip S xs ys
zip_weaker R S [] [] f z = tt
zip_weaker R S [] (b ∷ ys) f z = absurd z
zip_weaker R S (a ∷ xs) [] f z = absurd z
zip_weaker R S (a ∷ xs) (b ∷ ys) f z = (
  f a b (Contains-here b ys) z.0,
  zip_weaker R S xs ys (λ x y h. f x y (Contains-later b ys y h)) z.1,
)

pub find_at : {X : Type 0} (p : X → Bool) (xs : List X) (x : X) (ys : List X)
    → ((y : X) → Contains xs y → p y ≡ false) → p x ≡ true → find p (xs ++ x ∷ ys) ≡ Some x
find_at p [] x ys none e = ap (λ b. cond b (Some x) (find p ys)) e
find_at p (z ∷ xs) x ys none e =
    ap (λ b. cond b (Some z) (find p (xs ++ x ∷ ys))) (none z (Contains-here z xs))
    ∙ find_at p xs x ys (λ y h. none y (Contains-later z xs y h)) e

pub first_new : (test : Formula → Bool) (ds : List Deep) (d : Deep)
    → ((f : Formula) → Contains (formulas ds) f → test f ≡ false) → test d.formula ≡ true
    → first_depth test (ds ++ d ∷ []) ≡ d.depth
first_new test [] d none e = ap (λ b. if b then d.depth else 0) e
first_new test (c ∷ ds) d none e =
    ap (λ b. if b then c.depth else first_depth test (ds ++ d ∷ []))
    (none c.formula (Contains-here c.formula (formulas ds)))
    ∙ first_new test ds d (λ f h. none f (Contains-later c.formula (formulas ds) f h)) e

-- ---- forms

out_all : (p : Quant) → out-Formula (Forall p) ≡ Formula-F.Forall p
unfolding roll-Formula roll
out_all p = out-roll-Formula (Formula-F.Forall p)

out_some : (p : Quant) → out-Formula (Exists p) ≡ Formula-F.Exists p
unfolding roll-Formula roll
out_some p = out-roll-Formula (Formula-F.Exists p)

same_all : (p r : Quant) → Forall p ≡ Forall r → p ≡ r
same_all p r e =
    let same : Formula-F.Forall p ≡ Formula-F.Forall r =
    sym (out_all p) ∙ ap out-Formula e ∙ out_all r in cc

same_some : (p r : Quant) → Exists p ≡ Exists r → p ≡ r
same_some p r e =
    let same : Formula-F.Exists p ≡ Formula-F.Exists r =
    sym (out_some p) ∙ ap out-Formula e ∙ out_some r in cc

differ : (p r : Quant) → Forall p ≡ Exists r → ⊥
differ p r e =
    let same : Formula-F.Forall p ≡ Formula-F.Exists r =
    sym (out_all p) ∙ ap out-Formula e ∙ out_some r in cc

pub same_whole : (u v : Bool) (p r : Quant)
    → (if u then Forall p else Exists p) ≡ (if v then Forall r else Exists r)
    → (u ≡ v) × (p ≡ r)
same_whole true true p r e = (refl, same_all p r e)
same_whole false false p r e = (refl, same_some p r e)
same_whole true false p r e = absurd (differ p r e)
same_whole false true p r e = absurd (differ r p (sym e))

pub form_of : (q : Quantified) (us : List Term) (u : Bool) → q.universal ≡ u
    → closed_at q us ≡ (if u then Forall (substituted_quant us q.quant 0)
    else Exists (substituted_quant us q.quant 0))
form_of q us true e =
    ap (λ v. substituted us (if v then Forall q.quant else Exists q.quant)) e
    ∙ substituted_to-Forall us 0 q.quant
form_of q us false e =
    ap (λ v. substituted us (if v then Forall q.quant else Exists q.quant)) e
    ∙ substituted_to-Exists us 0 q.quant

-- ---- closed formulas

pub closed_any : (base : Base) (kept : List Kept) (closed : List Formula) (place : ℕ) (f : Formula)
    → AreBeside base kept closed → slice_get closed place ≡ Some f
    → Any (λ k. formula_kept base k ≡ Some f) kept
closed_any base [] [] place f b e = cc
closed_any base [] (g ∷ closed) place f b e = absurd b
closed_any base (k ∷ kept) [] place f b e = absurd b
closed_any base (k ∷ kept) (g ∷ closed) zero f b e = (0, k, omega arith, refl, b.0 ∙ e)
closed_any base (k ∷ kept) (g ∷ closed) (suc place) f b e =
    let rest = closed_any base kept closed place f b.1 e in
    let small = rest.2 in
    (suc rest.0, rest.1, omega (arith, small), rest.3, rest.4)

pub any_closed : (base : Base) (x : KeptFormulas) (f : Formula) → AreBeside base x.kept x.closed
    → Any (λ k. formula_kept base k ≡ Some f) x.kept → IsClosedKept x f
any_closed base x f b h =
    (h.0, place_there base x.kept x.closed f h.0 h.1 b h.2 h.3 h.4)

pub origin_same : (base : Base) (o : Origin) (g f : Formula) → IsNamed base o g
    → is_origin_of base f o ≡ same_formula g f
origin_same base o g f n =
    ap (λ q. option_map_or (λ q. same_formula (closed_at q o.outer) f) q false) n.numbered
    ∙ ap (λ h. same_formula h f) n.is

pub named_same : (base : Base) (o : Origin) (f g : Formula) → IsNamed base o f → IsNamed base o g
    → f ≡ g
named_same base o f g n m =
    let same : Some n.q ≡ Some m.q = sym n.numbered ∙ m.numbered in
    let q : n.q ≡ m.q = cc in
    sym n.is ∙ ap (λ q. closed_at q o.outer) q ∙ m.is
