-- The quantified formulas that facts name.
use Rattle.std.proofs.Common.{◌≡◌, ℕ, ◌+◌, ◌<◌, Bool, true, false, IsSome, List, [], ◌∷◌}
use Rattle.std.proofs.Common.{◌++◌, map, length, Option, Some, None, option_map, if◌then◌else◌}
use Rattle.std.proofs.Common.{refl, sym, ap, ◌∙◌, arith}
use Rattle.std.proofs.lemmas.Bool.{and_from}
use Rattle.std.proofs.lemmas.List.Sums.{AllPass-from_list_all, list_all-from_AllPass}
use Rattle.std.proofs.lemmas.Option.{get_or_from_slice_get, slice_get_within}
use Rattle.std.proofs.lemmas.List.FromFn.{length-map-range_with_len, map-range_with_len_more}
use Rattle.std.specs.List.{flat_map, list_all, range_with_len}
use Rattle.std.specs.Prelude.{slice_get}
use Rattle.esc_term.specs.declared.term.Head.TheVariants.{Skolem}
use Rattle.esc_term.specs.declared.term.Term.{Term}
use Rattle.esc_term.specs.declared.term.Term.TheVariants.{App}
use Rattle.esc_term.specs.declared.formula.Formula.{Formula}
use Rattle.esc_term.specs.declared.formula.Formula.TheVariants.{Forall, Exists}
use Rattle.esc_term.specs.declared.formula.Quant.{Quant}
use Rattle.esc_term.specs.Formula.{binds, is_closed}
use Rattle.esc_term.specs.Term.{is_ground}
use Rattle.esc_term.proofs.FormulaLevels.{binds-Forall, binds-Exists}
use Rattle.esc_term.proofs.GroundTerms.{is_ground-App}
use Rattle.esc_term.proofs.Tests.{implied, list_all-flat_map}
use Rattle.esc_fact.specs.Base.{Quantified, formulas_in, quantified_in, quantified_under, whole}
use Rattle.esc_fact.specs.Legal.{IsClosedBase}
use Rattle.esc_fact.specs.declared.base.Base.{Base}
use Rattle.esc_fact.proofs.Quantifiers.{body_bound, bound_under, is_bound}

abbrev pub Named : Base → ℕ → Type 0
Named base number = (q : Quantified) × (slice_get (quantified_in base) number ≡ Some q)

some_of : {X Y : Type 0} (g : X → Y) (o : Option X) → IsSome (option_map g o)
    → (x : X) × (o ≡ Some x)
some_of g None h = cc
some_of g (Some x) h = (x, refl)

pub named : (base : Base) (number : ℕ) (g : Quantified → Formula)
    → IsSome (option_map g (slice_get (quantified_in base) number)) → Named base number
named base number g h = some_of g (slice_get (quantified_in base) number) h

pub small : (base : Base) (number : ℕ) → Named base number → number < length (quantified_in base)
small base number n = slice_get_within (quantified_in base) number n.0 n.1

all_bound : (fs : List Formula) → list_all is_closed fs ≡ true
    → list_all is_bound (flat_map (λ f. quantified_under f 0) fs) ≡ true
all_bound fs h =
    list_all-flat_map is_bound (λ f. quantified_under f 0) fs
    ∙ implied is_closed (λ f. list_all is_bound (quantified_under f 0)) (λ f. bound_under f 0) fs h

-- each quantified formula of a closed base is bound where it stands
pub whole_bound : (base : Base) (number : ℕ) (q : Quantified) → IsClosedBase base
    → slice_get (quantified_in base) number ≡ Some q → binds (whole q) q.outer ≡ true
whole_bound base number q closed at =
    ap is_bound (sym (get_or_from_slice_get (quantified_in base) number q q at))
    ∙ AllPass-from_list_all is_bound (quantified_in base)
    (all_bound (formulas_in base)
    (list_all-from_AllPass is_closed (formulas_in base) closed)) number q
    (slice_get_within (quantified_in base) number q at)

-- and so is its body
pub part_bound : (q : Quantified) → binds (whole q) q.outer ≡ true
    → binds q.quant.body (q.outer + q.quant.count) ≡ true
part_bound q b = by q.universal refl
  where
    by : (u : Bool) → q.universal ≡ u → binds q.quant.body (q.outer + q.quant.count) ≡ true
    by true e =
        body_bound q.quant q.outer
        (sym (binds-Forall q.outer q.quant)
        ∙ ap (λ u. binds (if u then Forall q.quant else Exists q.quant) q.outer) (sym e) ∙ b)
    by false e =
        body_bound q.quant q.outer
        (sym (binds-Exists q.outer q.quant)
        ∙ ap (λ u. binds (if u then Forall q.quant else Exists q.quant) q.outer) (sym e) ∙ b)

-- the quantified formula under as many outer terms as it needs
pub formula_bound : (base : Base) (number : ℕ) (q : Quantified) (f : Formula) (us : List Term)
    → IsClosedBase base → slice_get (quantified_in base) number ≡ Some q
    → whole q ≡ f → length us ≡ q.outer → binds f (length us) ≡ true
formula_bound base number q f us closed at is many =
    ap (binds f) many ∙ ap (λ g. binds g q.outer) (sym is) ∙ whole_bound base number q closed at

-- and its body under terms for its own variables too
pub within_bound : (base : Base) (number : ℕ) (q : Quantified) (quant : Quant) (us ts : List Term)
    → IsClosedBase base → slice_get (quantified_in base) number ≡ Some q
    → quant ≡ q.quant → length us ≡ q.outer → length ts ≡ q.quant.count
    → binds quant.body (length us + length ts) ≡ true
within_bound base number q quant us ts closed at is many more =
    ap (λ p. binds p.body (length us + length ts)) is
    ∙ ap (λ n. binds q.quant.body (n + length ts)) many
    ∙ ap (λ n. binds q.quant.body (q.outer + n)) more
    ∙ part_bound q (whole_bound base number q closed at)

-- ---- terms of its own

pub own_ground : (number : ℕ) (us : List Term) (places : List ℕ) → list_all is_ground us ≡ true
    → list_all is_ground (map (λ i. App (Skolem number i) us) places) ≡ true
own_ground number us [] g = refl
own_ground number us (i ∷ places) g =
    and_from _ _ (is_ground-App (Skolem number i) us ∙ g) (own_ground number us places g)

-- one more term
pub own_more : {X : Type 0} (f : ℕ → X) (i : ℕ) (xs : List X) (x : X)
    → xs ≡ map f (range_with_len 0 i) → x ≡ f i → xs ++ x ∷ [] ≡ map f (range_with_len 0 (i + 1))
own_more f i xs x before last =
    ap (λ ys. ys ++ x ∷ []) before ∙ ap (λ y. map f (range_with_len 0 i) ++ y ∷ []) last
    ∙ sym (map-range_with_len_more f 0 i i (omega arith))

pub own_count : (number count : ℕ) (us : List Term)
    → length (map (λ i. App (Skolem number i) us) (range_with_len 0 count)) ≡ count
own_count number count us = length-map-range_with_len (λ i. App (Skolem number i) us) 0 count
