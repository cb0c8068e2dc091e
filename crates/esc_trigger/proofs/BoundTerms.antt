-- The terms of a formula's body hold no variable but those of its quantifier, as they read outside.
use Rattle.std.proofs.Common.{◌≡◌, ℕ, ◌+◌, ◌-◌, ◌<◌, ◌≤◌, Bool, true, ◌&&◌, nat_lt, nat_le, List}
use Rattle.std.proofs.Common.{[], ◌∷◌, ◌++◌, map, refl, ap, sym, subst, ◌∙◌, arith}
use Rattle.std.specs.List.{filter, flat_map, list_all}
use Rattle.std.proofs.Math.Bool.{and-true}
use Rattle.std.proofs.lemmas.Bool.{and_parts, and_from, leb-true, ltb-true, lt-ltb}
use Rattle.std.proofs.lemmas.List.Folds.{list_all-append, list_all-map}
use denote.Hole.Carrier.{roll}
use Rattle.esc_term.specs.declared.term.Term.{Term}
use Rattle.esc_term.specs.declared.term.Term.TheVariants.{Num, Var, App}
use Rattle.esc_term.specs.declared.term.Term.TheOpen.{Term-F}
use Rattle.esc_term.specs.declared.term.Term.TheViews.{roll-Term}
use Rattle.esc_term.specs.declared.term.Term.TheFolds.{map-Term, ind-Term}
use Rattle.esc_term.specs.declared.formula.Formula.{Formula}
use Rattle.esc_term.specs.declared.formula.Formula.TheOpen.{Formula-F, Quant-F}
use Rattle.esc_term.specs.declared.formula.Formula.TheViews.{roll-Formula, roll-Quant}
use Rattle.esc_term.specs.declared.formula.Formula.TheFolds.{map-Formula, map-Quant, ind-Formula}
use Rattle.esc_term.specs.declared.formula.Quant.{Quant}
use Rattle.esc_term.specs.Term.{binds_term, subterms}
use Rattle.esc_term.specs.Formula.{binds, binds_quant}
use Rattle.esc_term.proofs.TermLevels.{binds_term-Num, binds_term-Var, binds_term-App, subterms-Num}
use Rattle.esc_term.proofs.TermLevels.{subterms-Var, subterms-App}
use Rattle.esc_term.proofs.FormulaLevels.{binds-And, binds-Or, binds-Not, binds-Implies, binds-Iff}
use Rattle.esc_term.proofs.FormulaLevels.{binds-Forall, binds-Exists, binds-Eq, binds-Less}
use Rattle.esc_term.proofs.FormulaLevels.{binds-Distinct, binds-LabelPos, binds-LabelNeg}
use Rattle.esc_term.proofs.FormulaLevels.{binds_quant-at}
use Rattle.esc_term.proofs.Tests.{implied, implied_by, list_all-flat_map}
use Rattle.esc_cover.proofs.TestLemmas.{all_at, all_from, of_kept}
use Rattle.esc_trigger.specs.Candidates.{clear_terms, outside}
use Rattle.esc_trigger.specs.Variables.{is_clear, lowered, variables_of}
use Rattle.esc_trigger.proofs.ClearLevels.{clear_terms-True, clear_terms-False, clear_terms-And}
use Rattle.esc_trigger.proofs.ClearLevels.{clear_terms-Or, clear_terms-Not, clear_terms-Implies}
use Rattle.esc_trigger.proofs.ClearLevels.{clear_terms-Iff, clear_terms-Forall, clear_terms-Exists}
use Rattle.esc_trigger.proofs.ClearLevels.{clear_terms-Eq, clear_terms-Less, clear_terms-Distinct}
use Rattle.esc_trigger.proofs.ClearLevels.{clear_terms-LabelPos, clear_terms-LabelNeg}
use Rattle.esc_trigger.proofs.TermLevels.{variables_of-Num, variables_of-Var, variables_of-App}
use Rattle.esc_trigger.proofs.WalkLevels.{variables_of-lowered}

-- ---- tests of all elements

equal_by : {X : Type 0} (p q : X → Bool) (es : List ((x : X) × (p x ≡ q x)))
    → list_all p (map (λ e. e.0) es) ≡ list_all q (map (λ e. e.0) es)
equal_by p q [] = refl
equal_by p q (e ∷ es) =
    ap (λ b. b && list_all p (map (λ e. e.0) es)) e.1 ∙ ap (λ b. q e.0 && b) (equal_by p q es)

-- ---- the variables of a term

unfoldable pub is_within : ℕ → Term → Bool
is_within count t = list_all (λ k. nat_lt k count) (variables_of t)

module _ (d : ℕ) where
  abbrev SameTest : Term → Type 0
  SameTest t = binds_term d t ≡ list_all (λ k. nat_lt k d) (variables_of t)

  same_at : (y : Term-F ((t : Term) × SameTest t))
      → SameTest (roll-Term (map-Term ((t : Term) × SameTest t) Term (λ e. e.0) y))
  unfolding roll-Term roll
  same_at (Term-F.Num n) =
      binds_term-Num d n ∙ ap (list_all (λ k. nat_lt k d)) (sym (variables_of-Num n))
  same_at (Term-F.Var k) =
      binds_term-Var d k ∙ sym (and-true (nat_lt k d))
      ∙ ap (list_all (λ k. nat_lt k d)) (sym (variables_of-Var k))
  same_at (Term-F.App head es) =
      let args : List Term = map (λ e. e.0) es in
      binds_term-App d head args ∙ equal_by (binds_term d)
      (λ t. list_all (λ k. nat_lt k d) (variables_of t)) es
      ∙ sym (list_all-flat_map (λ k. nat_lt k d) variables_of args)
      ∙ ap (list_all (λ k. nat_lt k d)) (sym (variables_of-App head args))

  same_test : (t : Term) → SameTest t
  same_test = ind-Term SameTest (λ x y is. subst (λ z. SameTest (roll-Term z)) is (same_at y))

  -- what a depth binds in a term, it binds in each subterm
  abbrev BoundInside : Term → Type 0
  BoundInside t = binds_term d t ≡ true → list_all (binds_term d) (subterms t) ≡ true

  inside_at : (y : Term-F ((t : Term) × BoundInside t))
      → BoundInside (roll-Term (map-Term ((t : Term) × BoundInside t) Term (λ e. e.0) y))
  unfolding roll-Term roll
  inside_at (Term-F.Num n) b =
      ap (list_all (binds_term d)) (subterms-Num n) ∙ and_from (binds_term d (Num n)) true b refl
  inside_at (Term-F.Var k) b =
      ap (list_all (binds_term d)) (subterms-Var k) ∙ and_from (binds_term d (Var k)) true b refl
  inside_at (Term-F.App head es) b =
      let args : List Term = map (λ e. e.0) es in
      ap (list_all (binds_term d)) (subterms-App head args)
      ∙ list_all-append (binds_term d) (flat_map subterms args) (App head args ∷ [])
      ∙ and_from (list_all (binds_term d) (flat_map subterms args))
      (binds_term d (App head args) && true)
      (list_all-flat_map (binds_term d) subterms args
      ∙ implied_by (binds_term d) (λ t. list_all (binds_term d) (subterms t)) BoundInside
      (λ t inside. inside) es (sym (binds_term-App d head args) ∙ b))
      (and_from (binds_term d (App head args)) true b refl)

  subterms_bound : (t : Term) → BoundInside t
  subterms_bound =
      ind-Term BoundInside (λ x y is. subst (λ z. BoundInside (roll-Term z)) is (inside_at y))

pub is_within-bound : (count : ℕ) (t : Term) → binds_term count t ≡ true → is_within count t ≡ true
unfolding is_within
is_within-bound count t b = sym (same_test count t) ∙ b

-- ---- as they read outside

module _ (count : ℕ) where
  number_within : (d e k : ℕ) → e ≡ d + count → nat_le d k ≡ true → nat_lt k e ≡ true
      → nat_lt (k - d) count ≡ true
  number_within d e k is clear bound =
      let past : d ≤ k = leb-true d k clear in
      let below : k < e = ltb-true k e bound in
      lt-ltb (k - d) count (omega (arith, is, past, below))

  lowered_within : (d e : ℕ) (t : Term) → e ≡ d + count → is_clear d t ≡ true
      → binds_term e t ≡ true → is_within count (lowered d t) ≡ true
  unfolding is_within
  lowered_within d e t is clear bound =
      ap (list_all (λ k. nat_lt k count)) (variables_of-lowered d t)
      ∙ list_all-map (λ k. nat_lt k count) (λ k. k - d) (variables_of t)
      ∙ all_from (λ k. nat_lt (k - d) count) (variables_of t) (λ k m.
      number_within d e k is (all_at (nat_le d) (variables_of t) k clear m)
      (all_at (λ k. nat_lt k e) (variables_of t) k (sym (same_test e t) ∙ bound) m))

  outside_within : (d e : ℕ) (t : Term) → e ≡ d + count → binds_term e t ≡ true
      → list_all (is_within count) (outside d t) ≡ true
  outside_within d e t is bound =
      list_all-map (is_within count) (lowered d) (filter (is_clear d) (subterms t))
      ∙ all_from (λ s. is_within count (lowered d s)) (filter (is_clear d) (subterms t)) (λ s m.
      let kept = of_kept (is_clear d) (subterms t) s m in
      lowered_within d e s is kept.1
      (all_at (binds_term e) (subterms t) s (subterms_bound e t bound) kept.0))

  abbrev Within : Formula → Type 0
  Within f =
      (d e : ℕ) → e ≡ d + count → binds f e ≡ true
      → list_all (is_within count) (clear_terms f d) ≡ true

  abbrev QuantWithin : Quant → Type 0
  QuantWithin q =
      (d e : ℕ) → e ≡ d + count → binds_quant q e ≡ true
      → list_all (is_within count) (clear_terms q.body (d + q.count)) ≡ true

  quant_within : (q : Quant) → Within q.body → QuantWithin q
  quant_within q body d e is b =
      let inside : e + q.count ≡ (d + q.count) + count = omega (arith, is) in
      let parts =
      and_parts (list_all (list_all (binds_term (e + q.count))) q.patterns
      && list_all (binds_term (e + q.count)) q.exempt) (binds q.body (e + q.count))
      (sym (binds_quant-at e q) ∙ b) in
      body (d + q.count) (e + q.count) inside parts.1

  quant_at : (y : Quant-F ((f : Formula) × Within f) ((q : Quant) × QuantWithin q))
      → QuantWithin (roll-Quant (map-Quant ((f : Formula) × Within f)
      ((q : Quant) × QuantWithin q) Formula Quant (λ e. e.0) (λ e. e.0) y))
  unfolding roll
  quant_at y =
      quant_within (roll-Quant
      (map-Quant ((f : Formula) × Within f) ((q : Quant) × QuantWithin q) Formula Quant (λ e. e.0)
      (λ e. e.0) y)) y.body.1

  parts_within : (es : List ((f : Formula) × Within f)) (d e : ℕ) → e ≡ d + count
      → list_all (λ f. binds f e) (map (λ e. e.0) es) ≡ true
      → list_all (is_within count) (flat_map (λ f. clear_terms f d) (map (λ e. e.0) es)) ≡ true
  parts_within es d e is b =
      list_all-flat_map (is_within count) (λ f. clear_terms f d) (map (λ e. e.0) es)
      ∙ implied_by (λ f. binds f e) (λ f. list_all (is_within count) (clear_terms f d)) Within
      (λ f holds. holds d e is) es b

  both_within : (xs ys : List Term) → list_all (is_within count) xs ≡ true
      → list_all (is_within count) ys ≡ true → list_all (is_within count) (xs ++ ys) ≡ true
  both_within xs ys left right = list_all-append (is_within count) xs ys ∙ and_from _ _ left right

  formula_at : (y : Formula-F ((f : Formula) × Within f) ((q : Quant) × QuantWithin q))
      → Within (roll-Formula (map-Formula ((f : Formula) × Within f)
      ((q : Quant) × QuantWithin q) Formula Quant (λ e. e.0) (λ e. e.0) y))
  unfolding roll-Formula roll
  formula_at Formula-F.True d e is b = ap (list_all (is_within count)) (clear_terms-True d)
  formula_at Formula-F.False d e is b = ap (list_all (is_within count)) (clear_terms-False d)
  formula_at (Formula-F.And xs) d e is b =
      let fs : List Formula = map (λ e. e.0) xs in
      ap (list_all (is_within count)) (clear_terms-And d fs)
      ∙ parts_within xs d e is (sym (binds-And e fs) ∙ b)
  formula_at (Formula-F.Or xs) d e is b =
      let fs : List Formula = map (λ e. e.0) xs in
      ap (list_all (is_within count)) (clear_terms-Or d fs)
      ∙ parts_within xs d e is (sym (binds-Or e fs) ∙ b)
  formula_at (Formula-F.Not x) d e is b =
      ap (list_all (is_within count)) (clear_terms-Not d x.0)
      ∙ x.1 d e is (sym (binds-Not e x.0) ∙ b)
  formula_at (Formula-F.Implies x y) d e is b =
      let parts = and_parts (binds x.0 e) (binds y.0 e) (sym (binds-Implies e x.0 y.0) ∙ b) in
      ap (list_all (is_within count)) (clear_terms-Implies d x.0 y.0)
      ∙ both_within _ _ (x.1 d e is parts.0) (y.1 d e is parts.1)
  formula_at (Formula-F.Iff x y) d e is b =
      let parts = and_parts (binds x.0 e) (binds y.0 e) (sym (binds-Iff e x.0 y.0) ∙ b) in
      ap (list_all (is_within count)) (clear_terms-Iff d x.0 y.0)
      ∙ both_within _ _ (x.1 d e is parts.0) (y.1 d e is parts.1)
  formula_at (Formula-F.Forall q) d e is b =
      ap (list_all (is_within count)) (clear_terms-Forall d q.0)
      ∙ q.1 d e is (sym (binds-Forall e q.0) ∙ b)
  formula_at (Formula-F.Exists q) d e is b =
      ap (list_all (is_within count)) (clear_terms-Exists d q.0)
      ∙ q.1 d e is (sym (binds-Exists e q.0) ∙ b)
  formula_at (Formula-F.Eq s t) d e is b =
      let parts = and_parts (binds_term e s) (binds_term e t) (sym (binds-Eq e s t) ∙ b) in
      ap (list_all (is_within count)) (clear_terms-Eq d s t)
      ∙ both_within _ _ (outside_within d e s is parts.0) (outside_within d e t is parts.1)
  formula_at (Formula-F.Less s t) d e is b =
      let parts = and_parts (binds_term e s) (binds_term e t) (sym (binds-Less e s t) ∙ b) in
      ap (list_all (is_within count)) (clear_terms-Less d s t)
      ∙ both_within _ _ (outside_within d e s is parts.0) (outside_within d e t is parts.1)
  formula_at (Formula-F.Distinct ts) d e is b =
      ap (list_all (is_within count)) (clear_terms-Distinct d ts)
      ∙ list_all-flat_map (is_within count) (outside d) ts
      ∙ implied (binds_term e) (λ t. list_all (is_within count) (outside d t))
      (λ t. outside_within d e t is) ts (sym (binds-Distinct e ts) ∙ b)
  formula_at (Formula-F.LabelPos name x) d e is b =
      ap (list_all (is_within count)) (clear_terms-LabelPos d name x.0)
      ∙ x.1 d e is (sym (binds-LabelPos e name x.0) ∙ b)
  formula_at (Formula-F.LabelNeg name x) d e is b =
      ap (list_all (is_within count)) (clear_terms-LabelNeg d name x.0)
      ∙ x.1 d e is (sym (binds-LabelNeg e name x.0) ∙ b)

  pub clear_within : (f : Formula) → Within f
  clear_within =
      ind-Formula Within QuantWithin
      (λ x y is. subst (λ z. Within (roll-Formula z)) is (formula_at y))
      (λ x y is. subst (λ z. QuantWithin (roll-Quant z)) is (quant_at y))
