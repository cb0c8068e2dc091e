-- The formula of a fact over closed formulas is closed.
use Rattle.std.proofs.Common.{◌≡◌, ℕ, Bool, true, false, List, [], ◌∷◌, ◌++◌, length}
use Rattle.std.proofs.Common.{Option}
use Rattle.std.proofs.Common.{Some, None, not, option_map, refl, sym, ap, subst, ◌∙◌}
use Rattle.std.proofs.lemmas.Bool.{and_parts, and_from}
use Rattle.std.proofs.lemmas.List.{length-append}
use Rattle.std.proofs.lemmas.List.Folds.{list_all-append}
use Rattle.std.proofs.lemmas.List.Sums.{AllPass-from_list_all, list_all-from_AllPass}
use Rattle.std.proofs.lemmas.Option.{get_or_from_slice_get, slice_get_within}
use Rattle.std.specs.List.{cons_option, list_all, range_with_len}
use Rattle.std.specs.Prelude.{slice_get}
use Rattle.esc_term.specs.declared.term.Head.TheVariants.{Name}
use Rattle.esc_term.specs.declared.term.Term.{Term}
use Rattle.esc_term.specs.declared.formula.Formula.{Formula}
use Rattle.esc_term.specs.declared.formula.Formula.TheVariants.{Eq, Not}
use Rattle.esc_term.specs.Formula.{binds, is_closed}
use Rattle.esc_term.specs.Laws.{SubstitutionCloses}
use Rattle.esc_term.specs.Term.{is_ground}
use Rattle.esc_term.proofs.FormulaLevels.{binds-Eq, binds-Implies, binds-Not, binds-Or}
use Rattle.esc_term.proofs.GroundTerms.{is_ground-App}
use Rattle.esc_fact.specs.Base.{Quantified, formulas_in, quantified_in, whole}
use Rattle.esc_fact.specs.Fact.{IsFact, body_at, brings, closed_at, instance_of}
use Rattle.esc_fact.specs.Fact.{kept_of}
use Rattle.esc_fact.specs.Fact.{select, skolem_of, skolem_terms, store, written_of}
use Rattle.esc_fact.specs.Laws.{FactIsClosed}
use Rattle.esc_fact.specs.Legal.{IsClosedBase}
use Rattle.esc_fact.specs.declared.base.Base.{Base}
use Rattle.esc_fact.specs.declared.fact.Fact.TheVariants as fact
use Rattle.esc_fact.proofs.Named.{formula_bound, own_count, own_ground, within_bound}

-- ---- formulas of the base

closed_base : (base : Base) → IsClosedBase base → list_all is_closed (formulas_in base) ≡ true
closed_base base closed = list_all-from_AllPass is_closed (formulas_in base) closed

closed_at_place : (fs : List Formula) (k : ℕ) (f : Formula) → list_all is_closed fs ≡ true
    → slice_get fs k ≡ Some f → is_closed f ≡ true
closed_at_place fs k f all at =
    ap is_closed (sym (get_or_from_slice_get fs k f f at))
    ∙ AllPass-from_list_all is_closed fs all k f (slice_get_within fs k f at)

both_closed : (base : Base) → IsClosedBase base
    → (list_all is_closed base.background ≡ true)
    × (list_all is_closed (cons_option base.negated []) ≡ true)
both_closed base closed =
    and_parts _ _ (sym (list_all-append is_closed base.background (cons_option base.negated []))
    ∙ closed_base base closed)

negated_closed : (base : Base) (f : Formula) → IsClosedBase base → base.negated ≡ Some f
    → is_closed f ≡ true
negated_closed base f closed is =
    (and_parts (is_closed f) true (subst (λ n. list_all is_closed (cons_option n []) ≡ true) is
    (both_closed base closed).1)).0

-- ---- quantified formulas

brings_closed : (u : Bool) (f part : Formula) → is_closed f ≡ true → is_closed part ≡ true
    → is_closed (brings u f part) ≡ true
brings_closed true f part a b = binds-Implies 0 f part ∙ and_from _ _ a b
brings_closed false f part a b =
    binds-Implies 0 (Not f) (Not part)
    ∙ and_from _ _ (binds-Not 0 f ∙ a) (binds-Not 0 part ∙ b)

module _ (closes : SubstitutionCloses) (base : Base) (closed : IsClosedBase base) where
  -- what a quantified formula brings at ground terms
  bring_closed : (number : ℕ) (q : Quantified) (us ts : List Term) (u : Bool)
      → slice_get (quantified_in base) number ≡ Some q → length us ≡ q.outer
      → length ts ≡ q.quant.count → list_all is_ground us ≡ true → list_all is_ground ts ≡ true
      → is_closed (brings u (closed_at q us) (body_at q us ts)) ≡ true
  bring_closed number q us ts u at many more us_ground ts_ground =
      let formula = formula_bound base number q (whole q) us closed at refl many in
      let body = within_bound base number q q.quant us ts closed at refl many more in
      let ground_both = list_all-append is_ground us ts ∙ and_from _ _ us_ground ts_ground in
      brings_closed u (closed_at q us) (body_at q us ts) (closes us (whole q) us_ground formula)
      (closes (us ++ ts) q.quant.body ground_both
      (ap (binds q.quant.body) (length-append us ts) ∙ body))

  instance_closed : (number : ℕ) (us ts : List Term) (q : Quantified)
      → slice_get (quantified_in base) number ≡ Some q → IsFact base (fact.Inst number us ts)
      → is_closed (instance_of q us ts) ≡ true
  instance_closed number us ts q at is =
      let counts = is.counts q at in
      let grounds = and_parts _ _ (sym (list_all-append is_ground us ts) ∙ is.grounded) in
      bring_closed number q us ts q.universal at counts.0 counts.1 grounds.0 grounds.1

  skolem_closed : (number : ℕ) (us : List Term) (q : Quantified)
      → slice_get (quantified_in base) number ≡ Some q → IsFact base (fact.Skolem number us)
      → is_closed (skolem_of number q us) ≡ true
  skolem_closed number us q at is =
      bring_closed number q us (skolem_terms number q us) (not q.universal) at (is.counts q at)
      (own_count number q.quant.count us) is.grounded
      (own_ground number us (range_with_len 0 q.quant.count) is.grounded)

-- ---- maps

equation_closed : (s t : Term) → is_ground s ≡ true → is_ground t ≡ true
    → is_closed (Eq s t) ≡ true
unfolding is_ground
equation_closed s t a b = binds-Eq 0 s t ∙ and_from _ _ a b

select_ground : (m i : Term) → is_ground m ≡ true → is_ground i ≡ true
    → is_ground (select m i) ≡ true
select_ground m i a b =
    is_ground-App (Name (record { 0 = 1 })) (m ∷ i ∷ [])
    ∙ and_from _ _ a (and_from _ _ b refl)

store_ground : (m i x : Term) → is_ground m ≡ true → is_ground i ≡ true → is_ground x ≡ true
    → is_ground (store m i x) ≡ true
store_ground m i x a b c =
    is_ground-App (Name (record { 0 = 2 })) (m ∷ i ∷ x ∷ [])
    ∙ and_from _ _ a (and_from _ _ b (and_from _ _ c refl))

written_closed : (m i x : Term) → list_all is_ground (m ∷ i ∷ x ∷ []) ≡ true
    → is_closed (written_of m i x) ≡ true
written_closed m i x all =
    let first = and_parts (is_ground m) _ all in
    let second = and_parts (is_ground i) _ first.1 in
    let third = and_parts (is_ground x) _ second.1 in
    equation_closed (select (store m i x) i) x
    (select_ground (store m i x) i (store_ground m i x first.0 second.0 third.0) second.0) third.0

kept_closed : (m i x j : Term) → list_all is_ground (m ∷ i ∷ x ∷ j ∷ []) ≡ true
    → is_closed (kept_of m i x j) ≡ true
kept_closed m i x j all =
    let first = and_parts (is_ground m) _ all in
    let second = and_parts (is_ground i) _ first.1 in
    let third = and_parts (is_ground x) _ second.1 in
    let fourth = and_parts (is_ground j) _ third.1 in
    let there = store_ground m i x first.0 second.0 third.0 in
    binds-Or 0 (Eq i j ∷ Eq (select (store m i x) j) (select m j) ∷ [])
    ∙ and_from _ _ (equation_closed i j second.0 fourth.0)
    (and_from _ _ (equation_closed (select (store m i x) j) (select m j)
    (select_ground (store m i x) j there fourth.0) (select_ground m j first.0 fourth.0)) refl)

-- ---- facts

from_map : {X Y : Type 0} (g : X → Y) (o : Option X) (y : Y) → option_map g o ≡ Some y
    → (x : X) × (o ≡ Some x) × (g x ≡ y)
from_map g None y e = cc
from_map g (Some x) y e = (x, refl, cc)

is_of : (f g : Formula) → Some g ≡ Some f → is_closed g ≡ true → is_closed f ≡ true
is_of f g e closed = let same : g ≡ f = cc in ap is_closed (sym same) ∙ closed

pub fact_is_closed : SubstitutionCloses → FactIsClosed
fact_is_closed closes base (fact.Given k) f closed is at =
    closed_at_place base.background k f (both_closed base closed).0 at
fact_is_closed closes base fact.NegGoal f closed is at = negated_closed base f closed at
fact_is_closed closes base (fact.Inst number us ts) f closed is at =
    let found = from_map (λ q. instance_of q us ts) (slice_get (quantified_in base) number) f at in
    ap is_closed (sym found.2) ∙ instance_closed closes base closed number us ts
    found.0 found.1 is
fact_is_closed closes base (fact.Skolem number us) f closed is at =
    let found =
    from_map (λ q. skolem_of number q us) (slice_get (quantified_in base) number) f at in
    ap is_closed (sym found.2) ∙ skolem_closed closes base closed number us found.0 found.1 is
fact_is_closed closes base (fact.Map1 m i x) f closed is at =
    is_of f (written_of m i x) at (written_closed m i x is.grounded)
fact_is_closed closes base (fact.Map2 m i x j) f closed is at =
    is_of f (kept_of m i x j) at (kept_closed m i x j is.grounded)
