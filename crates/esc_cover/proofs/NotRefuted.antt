-- Formulas without arithmetic that have a counterexample are true where each class of terms has a
-- value of its own.
use Rattle.std.proofs.Common.{◌≡◌, ℤ, Bool, true, false, not, ◌&&◌, inl, inr, List, [], ◌∷◌, map, get_or, refl, ap, sym, subst, ◌∙◌}
use Rattle.std.specs.Prelude.{IsTrue}
use Rattle.std.specs.List.{AllZip, Contains, flat_map, list_all, list_any}
use Rattle.std.specs.Ordering.{int_eq}
use Rattle.std.proofs.lemmas.Bool.Decides.{Decides-int_eq}
use Rattle.std.proofs.lemmas.List.Elements.{All-contains_itself}
use denote.Hole.Carrier.{roll}
use Rattle.esc_term.specs.declared.term.Head.{Head}
use Rattle.esc_term.specs.declared.term.Head.TheVariants.{Add, Sub, Mul}
use Rattle.esc_term.specs.declared.term.Term.{Term, out-Term}
use Rattle.esc_term.specs.declared.term.Term.TheVariants.{Num, App, rolls-App}
use Rattle.esc_term.specs.declared.term.Term.TheOpen.{Term-F}
use Rattle.esc_term.specs.declared.term.Term.TheViews.{out-roll-Term}
use Rattle.esc_term.specs.declared.formula.Formula.{Formula, out-Formula}
use Rattle.esc_term.specs.declared.formula.Formula.TheVariants as formula
use Rattle.esc_term.specs.declared.formula.Formula.TheOpen.{Formula-F}
use Rattle.esc_term.specs.declared.formula.Formula.TheViews.{roll-Formula, out-roll-Formula}
use Rattle.esc_term.specs.declared.formula.Quant.{Quant}
use Rattle.esc_term.specs.declared.formula.Item.{Item}
use Rattle.esc_term.specs.Term.{is_ground, truth_term}
use Rattle.esc_term.specs.Formula.{terms_of}
use Rattle.esc_term.specs.Interpretation.{Interpretation, Interprets, domain_of, truth}
use Rattle.esc_term.proofs.GroundTerms.{is_ground-App, is_ground-Num}
use Rattle.esc_term.proofs.Members.{Contains-none, Contains-here, Contains-later, Contains-cases, Contains-flat_map}
use Rattle.esc_term.proofs.TruthLevels as levels
use Rattle.esc_term.proofs.Wholes.{domain-whole}
use Rattle.esc_cover.specs.Classes.{active_terms, classes_by, together}
use Rattle.esc_cover.specs.Cover.{are_between, by_literal, cover, is_forced_apart, is_literal, numerals_part, parts, parts_form}
use Rattle.esc_cover.specs.Arithmetic.{play_of}
use Rattle.esc_cover.specs.Atoms.{atoms_of}
use Rattle.esc_cover.specs.Counterexample.{IsConsistent}
use Rattle.esc_cover.specs.Laws.{NotRefuted, is_free_form, is_free_head, is_free_of_arithmetic, is_order_form}
use Rattle.esc_cover.specs.Least.{IsCongruent, IsLeast}
use Rattle.esc_cover.proofs.ActiveTerms.{active, of_active}
use Rattle.esc_cover.proofs.ClassLemmas.{of_together, together_by}
use Rattle.esc_cover.proofs.ClassValues.{class_value, numeral_value, other_value, same_value, value_same}
use Rattle.esc_cover.proofs.CoverLevels as covers
use Rattle.esc_cover.proofs.CoverOrder.{AreAtomsWithin, IsWithin, goes_by_atoms, within_by}
use Rattle.esc_cover.proofs.TestLemmas.{all_at, all_from, and_left, and_right, any_found, false_from, literal_found, not_both, not_true, or_cases}
use Rattle.esc_cover.proofs.TruthCover.{decided, distinct_within, eq_within, truth_cover, truth_cover-parts}
use Rattle.esc_cover.proofs.TwoPlaces.{some_two_found}

-- ---- classes that are forced apart have terms

module _ (classes : List (List Term)) (within : Term → Type 0) (both : (s t : Term)
    → together classes s t ≡ true → within s) where
  between_within : (s t u v : Term) → are_between classes s t u v ≡ true → within s × within t
  between_within s t u v e =
      elim (or_cases (together classes s u && together classes t v) (together classes s v
      && together classes t u) e) [
        | inl one ↦ (both s u (and_left _ _ one), both t v (and_right _ _ one))
        | inr other ↦ (both s v (and_left _ _ other), both t u (and_right _ _ other))
      ]

  form_within : (s t : Term) (form : Formula-F Formula Quant) (positive : Bool)
      → parts_form classes s t form positive ≡ true → within s × within t
  form_within s t (Formula-F.Eq u v) false e = between_within s t u v e
  form_within s t (Formula-F.Distinct us) true e = let found = some_two_found
      (are_between classes s t) us e in between_within s t found.0 found.1 found.2
  form_within s t form positive e = cc

  apart_within : (literals : List Item) (s t : Term) → is_forced_apart literals classes s t ≡ true
      → within s × within t
  apart_within literals s t e =
      elim (or_cases (list_any (parts classes s t) literals) (numerals_part classes s t)
      (and_right _ _ e)) [
        | inl part ↦ let found = any_found (parts classes s t) literals part
            in form_within s t (out-Formula found.0.formula) found.0.positive found.2
        | inr numerals ↦
            let members = flat_map (λ (ms : List Term). ms) classes in
            let first = any_found _ members numerals in
            let second = any_found _ members first.2 in
            between_within s t first.0 second.0 (and_right _ _ second.2)
      ]

-- ---- each class has a value of its own

module _ (literals : List Item) (formulas : List Formula) (same : Term → Term
    → Bool) (congruent : IsCongruent same (play_of formulas) literals) where
  abbrev terms : List Term
  terms = active_terms formulas

  abbrev classes : List (List Term)
  classes = classes_by same terms

  abbrev numbered : Term → ℤ
  numbered = class_value same congruent.equivalence terms

  abbrev numbers : Interpretation
  numbers = record { value = numbered; holds = λ f. is_literal literals f true }

  eq_holds : (s t : Term) → together classes s t ≡ true
      → int_eq (numbers.value s) (numbers.value t) ≡ true
  eq_holds s t e =
      let found = of_together same congruent.equivalence terms s t e in
      (Decides-int_eq (numbers.value s) (numbers.value t)).1
      (value_same same congruent.equivalence terms s t found.0 found.1 found.2)

  eq_fails : (s t : Term) → is_forced_apart literals classes s t ≡ true
      → int_eq (numbers.value s) (numbers.value t) ≡ false
  eq_fails s t e =
      let there = apart_within classes (Contains terms)
      (λ u v h. (of_together same congruent.equivalence terms u v h).0) literals s t e in
      false_from (int_eq (numbers.value s) (numbers.value t)) (λ is.
      let equal : numbers.value s ≡ numbers.value t
      = (Decides-int_eq (numbers.value s) (numbers.value t)).0 is in
      not_both (together classes s t)
      (together_by same congruent.equivalence terms s t there.0 there.1
      (same_value same congruent.equivalence terms s t there.0 equal).1)
      (not_true (together classes s t) (and_left _ _ e)))

  -- ---- what is said of a formula is true

  module _ (one_sign : (f : Formula) → Contains literals (record { formula = f; positive = true })
      → Contains literals (record { formula = f; positive = false }) → ⊥) where
    abbrev unordered : List Formula → Bool
    unordered fs = list_all (λ atom. not (is_order_form (out-Formula atom))) fs

    abbrev Said : Formula → Type 0
    Said f = IsWithin (cover literals classes f) (truth_cover numbers f)

    literal_once : (f : Formula) → is_literal literals f false ≡ true
        → is_literal literals f true ≡ false
    literal_once f e = false_from (is_literal literals f true)
        (λ h. one_sign f (literal_found literals f true h) (literal_found literals f false e))

    literal_said : (f : Formula) → cover literals classes f ≡ by_literal literals f
        → truth numbers f ≡ is_literal literals f true → Said f
    literal_said f covers is = within_by _ _ _ _ covers (ap decided is)
        (record { holds = λ h. h; fails = λ h. ap not (literal_once f h) })

    no_order : (among : List Formula) → unordered among ≡ true → (s t : Term)
        → Contains among (formula.Less s t) → ⊥
    unfolding roll-Formula roll
    no_order among free s t h =
        let order = all_at (λ atom. not (is_order_form (out-Formula atom))) among (formula.Less s t)
        free h in
        let clash : not true ≡ true = ap (λ form. not (is_order_form form))
        (sym (out-roll-Formula (Formula-F.Less s t))) ∙ order in cc

    atoms_said : (among : List Formula) → unordered among ≡ true
        → AreAtomsWithin literals classes (truth_cover numbers) (truth_cover-parts numbers) among
    atoms_said among free = record {
      of_Forall = λ q h. literal_said (formula.Forall q) (covers.cover-Forall literals classes q)
          (levels.truth-Forall numbers q);
      of_Exists = λ q h. literal_said (formula.Exists q) (covers.cover-Exists literals classes q)
          (levels.truth-Exists numbers q);
      of_Eq = λ s t h. eq_within literals classes numbers eq_holds eq_fails s t;
      of_Less = λ s t h. absurd (no_order among free s t h);
      of_Distinct = λ ts h. distinct_within literals classes numbers eq_holds eq_fails ts;
    }

    pub said : (f : Formula) → unordered (atoms_of f) ≡ true → Said f
    said f free = goes_by_atoms literals classes (truth_cover numbers) (truth_cover-parts numbers) f
        (atoms_said (atoms_of f) free)

  -- ---- the numbers are an interpretation

  module _ (free : (t : Term) → Contains (domain_of formulas) t → is_free_form (out-Term t) ≡ true)
      (one_numeral : (m n : ℤ) → together classes (Num m) (Num n) ≡ true → m ≡ n) where
    out-App : (head : Head) (ts : List Term) → out-Term (App head ts) ≡ Term-F.App head ts
    out-App head ts = ap out-Term (sym (rolls-App head ts)) ∙ out-roll-Term (Term-F.App head ts)

    free_head : (head : Head) (ts : List Term) → Contains (domain_of formulas) (App head ts)
        → is_free_head head ≡ true
    free_head head ts h = ap is_free_form (sym (out-App head ts)) ∙ free (App head ts) h

    numeral : (n : ℤ) → Contains (domain_of formulas) (Num n) → numbered (Num n) ≡ n
    numeral n h = numeral_value same congruent.equivalence terms one_numeral n
        (active formulas (Num n) h (is_ground-Num n))

    no_sum : (ts : List Term) → Contains (domain_of formulas) (App Add ts) → ⊥
    no_sum ts h = not_both false (free_head Add ts h) refl

    no_difference : (ts : List Term) → Contains (domain_of formulas) (App Sub ts) → ⊥
    no_difference ts h = not_both false (free_head Sub ts h) refl

    no_product : (ts : List Term) → Contains (domain_of formulas) (App Mul ts) → ⊥
    no_product ts h = not_both false (free_head Mul ts h) refl

    -- the arguments of a term in play are in play
    active_args : (head : Head) (ss : List Term) → Contains (domain_of formulas) (App head ss)
        → is_ground (App head ss) ≡ true → (s : Term) → Contains ss s → Contains terms s
    active_args head ss h g s k =
        active formulas s ((domain-whole formulas).args head ss s h k)
        (all_at is_ground ss s (sym (is_ground-App head ss) ∙ g) k)

    zipped : (ss ts : List Term) → ((s : Term) → Contains ss s → Contains terms s)
        → map numbers.value ss ≡ map numbers.value ts
        → AllZip (λ s t. IsTrue (same s t)) ss ts × ((t : Term) → Contains ts t → Contains terms t)
    zipped [] [] within e = (tt, λ t h. absurd (Contains-none t h))
    zipped [] (t ∷ ts) within e = absurd (cc)
    zipped (s ∷ ss) [] within e = absurd (cc)
    zipped (s ∷ ss) (t ∷ ts) within e =
        let first : numbered s ≡ numbered t = cc in
        let rest : map numbers.value ss ≡ map numbers.value ts = cc in
        let here = same_value same congruent.equivalence terms s t (within s (Contains-here s ss))
        first in
        let later = zipped ss ts (λ u h. within u (Contains-later s ss u h)) rest in (
          (here.1, later.0),
          λ u h. elim (Contains-cases t ts u h)
              [ inl is ↦ subst (Contains terms) is here.0 | inr k ↦ later.1 u k ],
        )

    congruent_active : (head : Head) (ss ts : List Term)
        → Contains (domain_of formulas) (App head ss) → Contains (domain_of formulas) (App head ts)
        → map numbers.value ss ≡ map numbers.value ts → is_ground (App head ss) ≡ true
        → numbered (App head ss) ≡ numbered (App head ts)
    congruent_active head ss ts h k e g =
        let zip = zipped ss ts (active_args head ss h g) e in
        let other : is_ground (App head ts) ≡ true = is_ground-App head ts
        ∙ all_from is_ground ts (λ t m. (of_active formulas t (zip.1 t m)).1) in
        let here : Contains terms (App head ss) = active formulas (App head ss) h g in
        let there : Contains terms (App head ts) = active formulas (App head ts) k other in
        value_same same congruent.equivalence terms (App head ss) (App head ts) here there
        (congruent.congruence head ss ts here there zip.0)

    not_active : (t : Term) → is_ground t ≡ false → (Contains terms t → ⊥)
    not_active t g h = not_both (is_ground t) (of_active formulas t h).1 g

    congruent_at : (head : Head) (ss ts : List Term) → Contains (domain_of formulas) (App head ss)
        → Contains (domain_of formulas) (App head ts)
        → map numbers.value ss ≡ map numbers.value ts → (b c : Bool) → is_ground (App head ss) ≡ b
        → is_ground (App head ts) ≡ c
        → numbered (App head ss) ≡ numbered (App head ts)
    congruent_at head ss ts h k e true c is js = congruent_active head ss ts h k e is
    congruent_at head ss ts h k e false true is js = sym
        (congruent_active head ts ss k h (sym e) js)
    congruent_at head ss ts h k e false false is js =
        other_value same congruent.equivalence terms (App head ss) (not_active (App head ss) is)
        ∙ sym (other_value same congruent.equivalence terms (App head ts)
        (not_active (App head ts) js))

    pub interprets : Interprets numbers (domain_of formulas)
    interprets = record {
      numerals = numeral;
      sums = λ ts h. absurd (no_sum ts h);
      differences = λ ts h. absurd (no_difference ts h);
      products = λ ts h. absurd (no_product ts h);
      congruence = λ head ss ts h k e. congruent_at head ss ts h k e (is_ground (App head ss))
          (is_ground (App head ts)) refl refl;
    }

-- ---- together

truth_term-free : is_free_form (out-Term truth_term) ≡ true
truth_term-free = ap is_free_form (ap out-Term (sym (rolls-App _ []))
    ∙ out-roll-Term (Term-F.App _ []))

free_domain : (formulas : List Formula) → list_all is_free_of_arithmetic formulas ≡ true
    → (t : Term) → Contains (domain_of formulas) t → is_free_form (out-Term t) ≡ true
free_domain formulas free t h =
    elim (Contains-cases truth_term (flat_map terms_of formulas) t h) [
      | inl is ↦ subst (λ u. is_free_form (out-Term u) ≡ true) is truth_term-free
      | inr later ↦
          let found = Contains-flat_map terms_of formulas t later in
          all_at (λ u. is_free_form (out-Term u)) (terms_of found.0) t
          (and_left _ _ (all_at is_free_of_arithmetic formulas found.0 free found.1)) found.2
    ]

pub not_refuted : NotRefuted
not_refuted literals _ values formulas free cex refuted =
    let same = cex.least.same in
    let congruent = cex.least.congruent in
    let I : Interpretation = numbers literals formulas same congruent in
    let one_numeral = λ (m n : ℤ) (e : together (classes_by same (active_terms formulas)) (Num m)
    (Num n) ≡ true).
    cex.consistent.numerals m n (ap (λ cs. together cs (Num m) (Num n)) cex.least.shown ∙ e) in
    refuted.none I (interprets literals formulas same congruent (free_domain formulas free)
    one_numeral)
    (λ k d h.
    let f : Formula = get_or formulas k d in
    let stands : Contains formulas f = All-contains_itself formulas k d h in
    (said literals formulas same congruent cex.consistent.one_sign f
    (and_right _ _ (all_at is_free_of_arithmetic formulas f free stands))).holds
    (ap (λ cs. (cover literals cs f).holds) (sym cex.least.shown) ∙ cex.covered k d h))

-- no formula without order is said both to hold and to fail
pub not_both_ways : (literals : List Item) (classes : List (List Term)) (formulas : List Formula)
    → IsLeast literals (play_of formulas) classes → IsConsistent literals classes
    → (f : Formula) → list_all (λ atom. not (is_order_form (out-Formula atom))) (atoms_of f) ≡ true
    → (cover literals classes f).holds ≡ true → (cover literals classes f).fails ≡ true → ⊥
not_both_ways literals _ formulas least consistent f free holds fails =
    let both = said literals formulas least.same least.congruent consistent.one_sign f free in
    not_both (truth (numbers literals formulas least.same least.congruent) f)
    (both.holds (ap (λ cs. (cover literals cs f).holds) (sym least.shown) ∙ holds))
    (not_true _ (both.fails (ap (λ cs. (cover literals cs f).fails) (sym least.shown) ∙ fails)))
