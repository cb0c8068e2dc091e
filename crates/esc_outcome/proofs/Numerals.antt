-- Where formulas have no arithmetic, their arithmetic terms are numerals, whose values are fixed.
use Rattle.std.proofs.Common.{◌≡◌, ℤ, true, not, List, [], refl, sym, ap, subst, ◌∙◌, inl, inr}
use Rattle.std.specs.List.{Contains, flat_map, list_all}
use Rattle.esc_term.specs.declared.term.Head.TheVariants.{Add, Sub, Mul, Name, Skolem}
use Rattle.esc_term.specs.declared.term.Term.{Term, out-Term}
use Rattle.esc_term.specs.declared.term.Term.TheVariants.{Num, rolls-App, rolls-Num}
use Rattle.esc_term.specs.declared.term.Term.TheOpen.{Term-F}
use Rattle.esc_term.specs.declared.term.Term.TheViews.{out-roll-Term, roll-Term, roll-out-Term}
use Rattle.esc_term.specs.declared.formula.Formula.{Formula, out-Formula}
use Rattle.esc_term.specs.declared.formula.Formula.TheOpen.{Formula-F}
use Rattle.esc_term.specs.declared.formula.Quant.{Quant}
use Rattle.esc_term.specs.Formula.{terms_of}
use Rattle.esc_term.specs.Interpretation.{domain_of}
use Rattle.esc_term.specs.Term.{truth_term}
use Rattle.esc_term.proofs.Members.{Contains-cases, Contains-flat_map, Contains-none}
use Rattle.esc_frac.specs.Rational.{ℚ, whole}
use Rattle.esc_linear.specs.Laws.{form_value}
use Rattle.esc_linear.proofs.FormLevels.{form-Num}
use Rattle.esc_linear.proofs.ValueLaw.{value-constant}
use Rattle.esc_cover.specs.Arithmetic.{is_arithmetic, is_arithmetic_in, is_number, is_number_form}
use Rattle.esc_cover.specs.Arithmetic.{operands, operands_form, order_sides, order_sides_form}
use Rattle.esc_cover.specs.Assignment.{Assignment}
use Rattle.esc_cover.specs.Atoms.{atoms_of}
use Rattle.esc_cover.specs.Classes.{active_terms, has}
use Rattle.esc_cover.specs.Counterexample.{fraction}
use Rattle.esc_cover.specs.Laws.{is_free_form, is_free_of_arithmetic, is_order_form}
use Rattle.esc_cover.proofs.ActiveTerms.{of_active}
use Rattle.esc_cover.proofs.TestLemmas.{all_at, and_left, and_right, has-found, of_kept, or_cases}
use Rattle.esc_simplex.specs.Senses.{Sense, sense_fraction}
use Rattle.esc_simplex.proofs.FormValue.{given, value-form}
use Rattle.esc_outcome.specs.Jam.{IsNumberOf}

-- ---- forms of terms

numeral_form : (y : Term-F Term) → is_number_form y ≡ true → is_free_form y ≡ true
    → (n : ℤ) × (y ≡ Term-F.Num n)
numeral_form (Term-F.Num n) number free = (n, refl)
numeral_form (Term-F.Var k) number free = absurd (cc)
numeral_form (Term-F.App Add ts) number free = absurd (cc)
numeral_form (Term-F.App Sub ts) number free = absurd (cc)
numeral_form (Term-F.App Mul ts) number free = absurd (cc)
numeral_form (Term-F.App (Name f) ts) number free = absurd (cc)
numeral_form (Term-F.App (Skolem n i) ts) number free = absurd (cc)

no_operands : (y : Term-F Term) → is_free_form y ≡ true → operands_form y ≡ []
no_operands (Term-F.Num n) free = refl
no_operands (Term-F.Var k) free = refl
no_operands (Term-F.App Add ts) free = absurd (cc)
no_operands (Term-F.App Sub ts) free = absurd (cc)
no_operands (Term-F.App Mul ts) free = absurd (cc)
no_operands (Term-F.App (Name f) ts) free = refl
no_operands (Term-F.App (Skolem n i) ts) free = refl

no_sides : (y : Formula-F Formula Quant) → not (is_order_form y) ≡ true
    → order_sides_form y ≡ []
no_sides (Formula-F.Less s t) free = absurd (cc)
no_sides Formula-F.True free = refl
no_sides Formula-F.False free = refl
no_sides (Formula-F.And parts) free = refl
no_sides (Formula-F.Or parts) free = refl
no_sides (Formula-F.Not part) free = refl
no_sides (Formula-F.Implies left right) free = refl
no_sides (Formula-F.Iff left right) free = refl
no_sides (Formula-F.Forall quant) free = refl
no_sides (Formula-F.Exists quant) free = refl
no_sides (Formula-F.Eq s t) free = refl
no_sides (Formula-F.Distinct ts) free = refl
no_sides (Formula-F.LabelPos name part) free = refl
no_sides (Formula-F.LabelNeg name part) free = refl

-- ---- the arithmetic terms

truth_term-free : is_free_form (out-Term truth_term) ≡ true
truth_term-free =
    ap is_free_form (ap out-Term (sym (rolls-App _ [])) ∙ out-roll-Term (Term-F.App _ []))

free_domain : (fs : List Formula) → list_all is_free_of_arithmetic fs ≡ true → (t : Term)
    → Contains (domain_of fs) t → is_free_form (out-Term t) ≡ true
free_domain fs free t h =
    elim (Contains-cases truth_term (flat_map terms_of fs) t h) [
      | inl is ↦ subst (λ u. is_free_form (out-Term u) ≡ true) is truth_term-free
      | inr later ↦
          let found = Contains-flat_map terms_of fs t later in
          all_at (λ u. is_free_form (out-Term u)) (terms_of found.0) t
          (and_left _ _ (all_at is_free_of_arithmetic fs found.0 free found.1)) found.2
    ]

module _ (fs : List Formula) (free : list_all is_free_of_arithmetic fs ≡ true) where
  free_term : (t : Term) → Contains (active_terms fs) t → is_free_form (out-Term t) ≡ true
  free_term t h = free_domain fs free t (of_active fs t h).0

  no_operand : (t : Term) → Contains (operands (active_terms fs)) t → ⊥
  no_operand t h =
      let form_of = λ (u : Term). operands_form (out-Term u) in
      let found = Contains-flat_map form_of (active_terms fs) t h in
      Contains-none t (subst (λ ts. Contains ts t)
      (no_operands (out-Term found.0) (free_term found.0 found.1)) found.2)

  no_side : (t : Term) → Contains (order_sides fs) t → ⊥
  no_side t h =
      let sides = λ (atom : Formula). order_sides_form (out-Formula atom) in
      let atom = Contains-flat_map sides (flat_map atoms_of fs) t h in
      let of = Contains-flat_map atoms_of fs atom.0 atom.1 in
      let unordered = all_at (λ a. not (is_order_form (out-Formula a))) (atoms_of of.0) atom.0
      (and_right _ _ (all_at is_free_of_arithmetic fs of.0 free of.1)) of.2 in
      Contains-none t (subst (λ ts. Contains ts t) (no_sides (out-Formula atom.0) unordered) atom.2)

  pub number_is_numeral : (t : Term) → IsNumberOf fs t
      → (n : ℤ) × (t ≡ Num n) × Contains (active_terms fs) t
  number_is_numeral t h =
      let found = of_kept (is_arithmetic fs) (active_terms fs) t h in
      elim (or_cases (is_arithmetic_in (active_terms fs) t) (has (order_sides fs) t) found.1) [
        | inl inside ↦ elim (or_cases (is_number t) (has (operands (active_terms fs)) t) inside) [
          | inl number ↦
              let is = numeral_form (out-Term t) number (free_term t found.0) in
              (is.0, sym (roll-out-Term t) ∙ (ap roll-Term is.1 ∙ rolls-Num is.0), found.0)
          | inr part ↦ absurd
              (no_operand t (has-found (operands (active_terms fs)) t part))
        ]
        | inr side ↦ absurd (no_side t (has-found (order_sides fs) t side))
      ]

-- ---- values

pub fraction-Num : (x : Assignment) (n : ℤ) → fraction x (Num n) ≡ whole n
fraction-Num x n =
    value-form x (Num n)
    ∙ (ap (form_value (given x)) (form-Num n) ∙ value-constant (given x) (whole n))

-- each assignment gives it this value
abbrev pub IsFixed : Sense → ℚ → Type 0
IsFixed s q = (x : Assignment) → sense_fraction x s ≡ q
