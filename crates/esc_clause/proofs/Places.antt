-- Where the parts of a formula stand among the occurrences of a formula.
use Rattle.std.proofs.Common.{◌≡◌, ◌⊎◌, inl, inr, ℕ, suc, zero, ◌+◌, Bool, List, [], ◌∷◌, ◌++◌}
use Rattle.std.proofs.Common.{Some, None, Option, drop, map, refl, ap, sym, subst, ◌∙◌}
use Rattle.std.proofs.Common.{append_assoc}
use Rattle.std.proofs.lemmas.List.{drop-drop, drop_at, append-nil}
use Rattle.std.proofs.lemmas.List.Concat.{flat_map-append}
use Rattle.std.specs.List.{flat_map, slice_get}
use Rattle.std.specs.Option.{option_and_then}
use denote.Hole.Carrier.{roll}
use Rattle.esc_term.specs.declared.term.Term.{Term}
use Rattle.esc_term.specs.declared.formula.Formula.{Formula}
use Rattle.esc_term.specs.declared.formula.Formula.TheVariants as formula
use Rattle.esc_term.specs.declared.formula.Formula.TheOpen.{Formula-F}
use Rattle.esc_term.specs.declared.formula.Formula.TheViews.{roll-Formula}
use Rattle.esc_term.specs.declared.formula.Formula.TheFolds.{map-Formula, ind-Formula}
use Rattle.esc_term.specs.declared.formula.Quant.{Quant}
use Rattle.esc_cover.specs.Atoms.{pair_equations}
use Rattle.esc_clause.specs.Expansion.{from_place, parts_at}
use Rattle.esc_clause.specs.Occurrences.{formula_at, occurrences_of, size_of}
use Rattle.esc_clause.specs.declared.occurrence.Occurrence.{Occurrence}
use Rattle.esc_clause.proofs.OccurrencesLevels as levels

-- wherever a formula stands in the list, its occurrences stand from there on
abbrev pub IsWhole : List Formula → Type 0
IsWhole os =
    (n : ℕ) (f : Formula) → slice_get os n ≡ Some f
    → (rest : List Formula) × (drop n os ≡ occurrences_of f ++ rest)

get-append : (xs ys : List Formula) (n : ℕ) (f : Formula) → slice_get (xs ++ ys) n ≡ Some f →
    ((slice_get xs n ≡ Some f) × (drop n (xs ++ ys) ≡ drop n xs ++ ys))
    ⊎ ((m : ℕ) × (slice_get ys m ≡ Some f) × (drop n (xs ++ ys) ≡ drop m ys))
get-append [] ys n f e = inr (n, e, refl)
get-append (x ∷ xs) ys zero f e = inl (e, refl)
get-append (x ∷ xs) ys (suc n) f e = get-append xs ys n f e

whole-nil : IsWhole []
whole-nil n f e = cc

whole-append : (xs ys : List Formula) → IsWhole xs → IsWhole ys → IsWhole (xs ++ ys)
whole-append xs ys front back n f e =
    elim (get-append xs ys n f e) [
      | inl p ↦ let r = front n f p.0 in
          (r.0 ++ ys, p.1 ∙ (ap (λ l. l ++ ys) r.1 ∙ append_assoc (occurrences_of f) r.0 ys))
      | inr q ↦ let r = back q.0 f q.1 in (r.0, q.2 ∙ r.1)
    ]

-- the formula stands first among its occurrences, and those behind it are whole
record StandsFirst (f : Formula) : Type 0 where
  parts : List Formula
  is : occurrences_of f ≡ f ∷ parts
  whole : IsWhole parts

whole_from_first : (f g : Formula) (os : List Formula) → occurrences_of f ≡ f ∷ os → IsWhole os
    → IsWhole (f ∷ os)
whole_from_first f g os is whole zero h e =
    let same : f ≡ h = cc in (
      [],
      subst (λ x. (f ∷ os) ≡ occurrences_of x ++ []) same
          (sym is ∙ sym (append-nil (occurrences_of f))),
    )
whole_from_first f g os is whole (suc n) h e = whole n h e

whole_of : (f : Formula) → StandsFirst f → IsWhole (occurrences_of f)
whole_of f first =
    subst IsWhole (sym first.is) (whole_from_first f f first.parts first.is first.whole)

whole_all : (es : List ((f : Formula) × StandsFirst f))
    → IsWhole (flat_map occurrences_of (map (λ e. e.0) es))
whole_all [] = whole-nil
whole_all (e ∷ es) =
    whole-append (occurrences_of e.0) (flat_map occurrences_of (map (λ e. e.0) es))
    (whole_of e.0 e.1) (whole_all es)

whole_atom : (f : Formula) (os : List Formula) → occurrences_of f ≡ f ∷ [] → IsWhole os
    → IsWhole (f ∷ os)
whole_atom f os is whole zero h e =
    let same : f ≡ h = cc in
    (os, subst (λ x. (f ∷ os) ≡ occurrences_of x ++ os) same (ap (λ l. l ++ os) (sym is)))
whole_atom f os is whole (suc n) h e = whole n h e

whole_equations : (t : Term) (us : List Term) → IsWhole (map (λ u. formula.Eq t u) us)
whole_equations t [] = whole-nil
whole_equations t (u ∷ us) =
    whole_atom (formula.Eq t u) (map (λ u. formula.Eq t u) us) (levels.occurrences_of-Eq t u)
    (whole_equations t us)

whole_pairs : (ts : List Term) → IsWhole (pair_equations ts)
whole_pairs [] = whole-nil
whole_pairs (t ∷ ts) =
    whole-append (map (λ u. formula.Eq t u) ts) (pair_equations ts) (whole_equations t ts)
    (whole_pairs ts)

abbrev Any_quant : Quant → Type 0
Any_quant q = Unit {0}

stands_at : (y : Formula-F ((f : Formula) × StandsFirst f) ((q : Quant) × Any_quant q))
    → StandsFirst (roll-Formula (map-Formula ((f : Formula) × StandsFirst f)
    ((q : Quant) × Any_quant q) Formula Quant (λ e. e.0) (λ e. e.0) y))
unfolding roll-Formula roll
stands_at Formula-F.True = record { parts = []; is = levels.occurrences_of-True; whole = whole-nil }
stands_at Formula-F.False =
    record { parts = []; is = levels.occurrences_of-False; whole = whole-nil }
stands_at (Formula-F.And es) =
    record { parts = _; is = levels.occurrences_of-And (map (λ e. e.0) es); whole = whole_all es }
stands_at (Formula-F.Or es) =
    record { parts = _; is = levels.occurrences_of-Or (map (λ e. e.0) es); whole = whole_all es }
stands_at (Formula-F.Not e) =
    record { parts = _; is = levels.occurrences_of-Not e.0; whole = whole_of e.0 e.1 }
stands_at (Formula-F.Implies d e) =
    record {
      parts = _;
      is = levels.occurrences_of-Implies d.0 e.0;
      whole =
          whole-append (occurrences_of d.0) (occurrences_of e.0) (whole_of d.0 d.1)
          (whole_of e.0 e.1);
    }
stands_at (Formula-F.Iff d e) =
    record {
      parts = _;
      is = levels.occurrences_of-Iff d.0 e.0;
      whole =
          whole-append (occurrences_of d.0) (occurrences_of e.0) (whole_of d.0 d.1)
          (whole_of e.0 e.1);
    }
stands_at (Formula-F.Forall q) =
    record { parts = []; is = levels.occurrences_of-Forall q.0; whole = whole-nil }
stands_at (Formula-F.Exists q) =
    record { parts = []; is = levels.occurrences_of-Exists q.0; whole = whole-nil }
stands_at (Formula-F.Eq s t) =
    record { parts = []; is = levels.occurrences_of-Eq s t; whole = whole-nil }
stands_at (Formula-F.Less s t) =
    record { parts = []; is = levels.occurrences_of-Less s t; whole = whole-nil }
stands_at (Formula-F.Distinct ts) =
    record {
      parts = pair_equations ts;
      is = levels.occurrences_of-Distinct ts;
      whole =
          whole_pairs ts;
    }
stands_at (Formula-F.LabelPos name e) =
    record { parts = _; is = levels.occurrences_of-LabelPos name e.0; whole = whole_of e.0 e.1 }
stands_at (Formula-F.LabelNeg name e) =
    record { parts = _; is = levels.occurrences_of-LabelNeg name e.0; whole = whole_of e.0 e.1 }

stands_first : (f : Formula) → StandsFirst f
stands_first =
    ind-Formula StandsFirst Any_quant
    (λ x y is. subst (λ z. StandsFirst (roll-Formula z)) is (stands_at y)) (λ x y is. tt)

get-drop : (os : List Formula) (n : ℕ) → slice_get os n ≡ slice_get (drop n os) 0
get-drop os zero = refl
get-drop [] (suc n) = refl
get-drop (x ∷ os) (suc n) = get-drop os n

-- the parts stand side by side from a place of a fact on
pub parts_from : (fs : List Formula) (g : Formula) (fact : ℕ) (positive : Bool) (place : ℕ)
    (parts rest : List Formula) →
    slice_get fs fact ≡ Some g → drop place (occurrences_of g)
    ≡ flat_map occurrences_of parts ++ rest →
    map (formula_at fs) (from_place fact place positive parts) ≡ map (λ p. Some p) parts
parts_from fs g fact positive place [] rest there from = refl
parts_from fs g fact positive place (p ∷ ps) rest there from =
    let first = stands_first p in
    let parted : drop place (occurrences_of g)
    ≡ occurrences_of p ++ (flat_map occurrences_of ps ++ rest) =
    from ∙ append_assoc (occurrences_of p) (flat_map occurrences_of ps) rest in
    let here : slice_get (occurrences_of g) place ≡ Some p =
    get-drop (occurrences_of g) place ∙ (ap (λ os. slice_get os 0) parted
    ∙ ap (λ os. slice_get (os ++ (flat_map occurrences_of ps ++ rest)) 0) first.is) in
    let at_it : option_and_then (λ f. slice_get (occurrences_of f) place)
    (slice_get fs fact) ≡ Some p =
    ap (λ o. option_and_then (λ f. slice_get (occurrences_of f) place) o) there ∙ here in
    let next : drop (place + size_of p) (occurrences_of g) ≡ flat_map occurrences_of ps ++ rest =
    sym (drop-drop (size_of p) place (occurrences_of g)) ∙ (ap (λ os. drop (size_of p) os) parted
    ∙ drop_at (occurrences_of p) (flat_map occurrences_of ps ++ rest) (size_of p) refl) in
    ap (λ o. o ∷ map (formula_at fs) (from_place fact (place + size_of p) positive ps)) at_it
    ∙ ap (λ os. Some p ∷ os) (parts_from fs g fact positive (place + size_of p) ps rest there next)

-- the parts of a formula stand behind it
pub parts_there : (fs : List Formula) (at : Occurrence) (f : Formula) (positive : Bool)
    (parts : List Formula) →
    formula_at fs at ≡ Some f → occurrences_of f ≡ f ∷ flat_map occurrences_of parts →
    map (formula_at fs) (parts_at at positive parts) ≡ map (λ p. Some p) parts
parts_there fs at f positive parts there is =
    found (slice_get fs at.fact) refl there
  where
    found : (o : Option Formula) → slice_get fs at.fact ≡ o
        → option_and_then (λ g. slice_get (occurrences_of g) at.place) o ≡ Some f →
        map (formula_at fs) (parts_at at positive parts) ≡ map (λ p. Some p) parts
    found None e h = cc
    found (Some g) e h =
        let from = whole_of g (stands_first g) at.place f h in
        let next : drop (at.place + 1) (occurrences_of g)
        ≡ flat_map occurrences_of parts ++ from.0 =
        sym (drop-drop 1 at.place (occurrences_of g))
        ∙ (ap (λ os. drop 1 os) from.1 ∙ ap (λ os. drop 1 (os ++ from.0)) is) in
        parts_from fs g at.fact positive (at.place + 1) parts from.0 e next

flat_equations : (t : Term) (us : List Term)
    → flat_map occurrences_of (map (λ u. formula.Eq t u) us) ≡ map (λ u. formula.Eq t u) us
flat_equations t [] = refl
flat_equations t (u ∷ us) =
    ap (λ os. os ++ flat_map occurrences_of (map (λ u. formula.Eq t u) us))
    (levels.occurrences_of-Eq t u)
    ∙ ap (λ os. formula.Eq t u ∷ os) (flat_equations t us)

-- the equations of pairs have no parts
pub flat_pairs : (ts : List Term) → flat_map occurrences_of (pair_equations ts) ≡ pair_equations ts
flat_pairs [] = refl
flat_pairs (t ∷ ts) =
    flat_map-append occurrences_of (map (λ u. formula.Eq t u) ts) (pair_equations ts)
    ∙ (ap (λ os. os ++ flat_map occurrences_of (pair_equations ts)) (flat_equations t ts)
    ∙ ap (λ os. map (λ u. formula.Eq t u) ts ++ os) (flat_pairs ts))
