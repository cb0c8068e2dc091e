-- From plain goals and assumptions nothing is drawn.
use Rattle.std.proofs.Common.{◌≡◌, ℕ, Bool, true, false, ◌&&◌, List, [], ◌∷◌, ◌++◌, map, length}
use Rattle.std.proofs.Common.{refl, sym, subst, ap, ap₂, ◌∙◌, inl, inr}
use Rattle.std.specs.List.{Contains, flat_map, list_all}
use Rattle.std.proofs.lemmas.List.Elements.{Contains-append_cases}
use denote.Hole.Carrier.{roll}
use Rattle.esc_term.specs.declared.term.Head.{Head}
use Rattle.esc_term.specs.declared.term.Head.TheVariants.{Name}
use Rattle.esc_term.specs.declared.term.Term.{Term, out-Term}
use Rattle.esc_term.specs.declared.term.Term.TheVariants.{Num, Var, App}
use Rattle.esc_term.specs.declared.term.Term.TheOpen.{Term-F}
use Rattle.esc_term.specs.declared.term.Term.TheViews.{roll-Term, out-roll-Term}
use Rattle.esc_term.specs.declared.term.Term.TheFolds.{ind-Term, map-Term}
use Rattle.esc_term.specs.declared.formula.Formula.{Formula}
use Rattle.esc_term.specs.declared.formula.Formula.TheVariants.{True, False, And, Or, Not, Implies}
use Rattle.esc_term.specs.declared.formula.Formula.TheVariants.{Iff, Eq, Less, LabelPos}
use Rattle.esc_term.specs.declared.formula.Formula.TheVariants.{LabelNeg}
use Rattle.esc_term.specs.declared.formula.Formula.TheOpen.{Formula-F}
use Rattle.esc_term.specs.declared.formula.Formula.TheViews.{roll-Formula}
use Rattle.esc_term.specs.declared.formula.Formula.TheFolds.{ind-Formula, map-Formula}
use Rattle.esc_term.specs.declared.formula.Quant.{Quant}
use Rattle.esc_term.specs.Formula.{terms_of}
use Rattle.esc_term.specs.Term.{subterms}
use Rattle.esc_term.proofs.GroundTerms.{terms_of-True, terms_of-False, terms_of-And, terms_of-Or}
use Rattle.esc_term.proofs.GroundTerms.{terms_of-Not, terms_of-Implies, terms_of-Iff, terms_of-Eq}
use Rattle.esc_term.proofs.GroundTerms.{terms_of-Less, terms_of-Distinct, terms_of-LabelPos}
use Rattle.esc_term.proofs.GroundTerms.{terms_of-LabelNeg}
use Rattle.esc_term.proofs.Members.{Contains-none, Contains-here, Contains-later, Contains-cases}
use Rattle.esc_term.proofs.Members.{Contains-flat_map}
use Rattle.esc_term.proofs.TermLevels.{subterms-Num, subterms-Var, subterms-App}
use Rattle.esc_cover.proofs.TestLemmas.{all_at, and_left, and_right, not_both}
use Rattle.esc_fact.specs.Base.{quantified_under}
use Rattle.esc_fact.specs.Fact.{store}
use Rattle.esc_fact.proofs.Quantifiers.{under-True, under-False, under-And, under-Or, under-Not}
use Rattle.esc_fact.proofs.Quantifiers.{under-Implies, under-Iff, under-Eq, under-Less}
use Rattle.esc_fact.proofs.Quantifiers.{under-Distinct, under-LabelPos, under-LabelNeg}
use Rattle.esc_outcome.specs.PlainLaws.{IsPlain}
use Rattle.esc_report.specs.Goals.{base_of}
use Rattle.esc_report.specs.Laws.{PlainGoalIsPlain}
use Rattle.esc_report.specs.PlainFormulas.{is_plain_head, is_plain_term, is_plain_formula}
use Rattle.esc_report.proofs.PlainLevels.{is_plain_term-App}
use Rattle.esc_report.proofs.PlainLevels.{is_plain_formula-And, is_plain_formula-Distinct}
use Rattle.esc_report.proofs.PlainLevels.{is_plain_formula-Eq, is_plain_formula-Exists}
use Rattle.esc_report.proofs.PlainLevels.{is_plain_formula-Forall, is_plain_formula-Iff}
use Rattle.esc_report.proofs.PlainLevels.{is_plain_formula-Implies, is_plain_formula-LabelNeg}
use Rattle.esc_report.proofs.PlainLevels.{is_plain_formula-LabelPos, is_plain_formula-Less}
use Rattle.esc_report.proofs.PlainLevels.{is_plain_formula-Not, is_plain_formula-Or}

-- ---- lists

-- what stands beside each element holds of it
held : {X : Type 0} (P : X → Type 0) (es : List ((x : X) × P x)) (x : X)
    → Contains (map (λ e. e.0) es) x → P x
held P [] x h = absurd (Contains-none x h)
held P (e ∷ es) x h = elim (Contains-cases e.0 (map (λ e. e.0) es) x h)
    [ inl same ↦ subst P same e.1 | inr later ↦ held P es x later ]

flat_none : {X Y : Type 0} (f : X → List Y) (xs : List X) → ((x : X) → Contains xs x → f x ≡ [])
    → flat_map f xs ≡ []
flat_none f [] each = refl
flat_none f (x ∷ xs) each =
    ap (λ ys. ys ++ flat_map f xs) (each x (Contains-here x xs))
    ∙ flat_none f xs (λ y h. each y (Contains-later x xs y h))

-- ---- terms

abbrev top_form : Term-F Term → Bool
top_form (Term-F.Num n) = true
top_form (Term-F.Var k) = true
top_form (Term-F.App head args) = is_plain_head head (length args)

-- the term is no write itself
abbrev is_plain_top : Term → Bool
is_plain_top t = top_form (out-Term t)

top-Num : (n : _) → is_plain_top (Num n) ≡ true
unfolding roll-Term roll
top-Num n = ap top_form (out-roll-Term (Term-F.Num n))

top-Var : (k : ℕ) → is_plain_top (Var k) ≡ true
unfolding roll-Term roll
top-Var k = ap top_form (out-roll-Term (Term-F.Var k))

top-App : (head : Head) (args : List Term)
    → is_plain_top (App head args) ≡ is_plain_head head (length args)
unfolding roll-Term roll
top-App head args = ap top_form (out-roll-Term (Term-F.App head args))

no_store : (m i x : Term) → is_plain_top (store m i x) ≡ true → ⊥
no_store m i x h =
    not_both (is_plain_top (store m i x)) h
    (top-App (Name (record { 0 = 2 })) (m ∷ i ∷ x ∷ []))

only : (t s : Term) → is_plain_top t ≡ true → Contains (t ∷ []) s → is_plain_top s ≡ true
only t s p h =
    elim (Contains-cases t [] s h) [
      | inl same ↦ subst (λ (u : Term). is_plain_top u ≡ true) same p
      | inr none ↦ absurd (Contains-none s none)
    ]

abbrev PlainInside : Term → Type 0
PlainInside t =
    is_plain_term t ≡ true → (s : Term) → Contains (subterms t) s → is_plain_top s ≡ true

plain_inside_at : (y : Term-F ((t : Term) × PlainInside t))
    → PlainInside (roll-Term (map-Term ((t : Term) × PlainInside t) Term (λ e. e.0) y))
unfolding roll-Term roll
plain_inside_at (Term-F.Num n) p s h =
    only (Num n) s (top-Num n) (subst (λ (ts : List Term). Contains ts s) (subterms-Num n) h)
plain_inside_at (Term-F.Var k) p s h =
    only (Var k) s (top-Var k) (subst (λ (ts : List Term). Contains ts s) (subterms-Var k) h)
plain_inside_at (Term-F.App head es) p s h =
    let ts : List Term = map (λ e. e.0) es in
    let plain : (is_plain_head head (length ts) && list_all is_plain_term ts) ≡ true =
    sym (is_plain_term-App head ts) ∙ p in
    elim (Contains-append_cases (flat_map subterms ts) (App head ts ∷ []) s
    (subst (λ (us : List Term). Contains us s) (subterms-App head ts) h)) [
      | inl inside ↦
          let found = Contains-flat_map subterms ts s inside in
          held PlainInside es found.0 found.1
          (all_at is_plain_term ts found.0 (and_right _ _ plain) found.1) s found.2
      | inr last ↦
          only (App head ts) s (top-App head ts ∙ and_left _ _ plain) last
    ]

plain_inside : (t : Term) → PlainInside t
plain_inside = ind-Term PlainInside
    (λ x y is. subst (λ z. PlainInside (roll-Term z)) is (plain_inside_at y))

-- ---- formulas

-- no write and no quantified formula stands in it
record BringsNothing (f : Formula) : Type 0 where
  terms : (t : Term) → Contains (terms_of f) t → is_plain_top t ≡ true
  unquantified : (d : ℕ) → quantified_under f d ≡ []

plain_parts : (g : Formula) (fs : List Formula) → terms_of g ≡ flat_map terms_of fs
    → ((d : ℕ) → quantified_under g d ≡ flat_map (λ f. quantified_under f d) fs)
    → ((f : Formula) → Contains fs f → BringsNothing f) → BringsNothing g
plain_parts g fs terms under parts = record {
  terms = λ t h.
      let found = Contains-flat_map terms_of fs t
      (subst (λ (ts : List Term). Contains ts t) terms h) in
      (parts found.0 found.1).terms t found.2;
  unquantified = λ d.
      under d ∙ flat_none (λ f. quantified_under f d) fs (λ f h. (parts f h).unquantified d);
}

none_plain : (f : Formula) → Contains [] f → BringsNothing f
none_plain f h = absurd (Contains-none f h)

plain_one : (g f : Formula) → terms_of g ≡ terms_of f
    → ((d : ℕ) → quantified_under g d ≡ quantified_under f d) → BringsNothing f
    → BringsNothing g
plain_one g f terms under part = record {
  terms = λ t h. part.terms t (subst (λ (ts : List Term). Contains ts t) terms h);
  unquantified = λ d. under d ∙ part.unquantified d;
}

plain_two : (h f g : Formula) → terms_of h ≡ terms_of f ++ terms_of g
    → ((d : ℕ) → quantified_under h d ≡ quantified_under f d ++ quantified_under g d)
    → BringsNothing f → BringsNothing g → BringsNothing h
plain_two h f g terms under left right = record {
  terms = λ t k.
      elim (Contains-append_cases (terms_of f) (terms_of g) t
      (subst (λ (ts : List Term). Contains ts t) terms k)) [
        | inl here ↦ left.terms t here
        | inr there ↦ right.terms t there
      ];
  unquantified = λ d.
      under d ∙ ap₂ (λ xs ys. xs ++ ys) (left.unquantified d) (right.unquantified d);
}

plain_pair : (f : Formula) (s t : Term) → terms_of f ≡ subterms s ++ subterms t
    → ((d : ℕ) → quantified_under f d ≡ []) → (is_plain_term s && is_plain_term t) ≡ true
    → BringsNothing f
plain_pair f s t terms under both = record {
  terms = λ u h.
      elim (Contains-append_cases (subterms s) (subterms t) u
      (subst (λ (ts : List Term). Contains ts u) terms h)) [
        | inl left ↦ plain_inside s (and_left _ _ both) u left
        | inr right ↦ plain_inside t (and_right _ _ both) u right
      ];
  unquantified = under;
}

abbrev PlainOutside : Formula → Type 0
PlainOutside f = is_plain_formula f ≡ true → BringsNothing f

abbrev Any_quant : Quant → Type 0
Any_quant q = Unit {0}

plain_outside_at : (y : Formula-F ((f : Formula) × PlainOutside f) ((q : Quant) × Any_quant q))
    → PlainOutside (roll-Formula (map-Formula ((f : Formula) × PlainOutside f)
    ((q : Quant) × Any_quant q) Formula Quant (λ e. e.0) (λ e. e.0) y))
unfolding roll-Formula roll
plain_outside_at Formula-F.True p = plain_parts True [] terms_of-True under-True none_plain
plain_outside_at Formula-F.False p = plain_parts False [] terms_of-False under-False none_plain
plain_outside_at (Formula-F.And es) p =
    let fs : List Formula = map (λ e. e.0) es in
    plain_parts (And fs) fs (terms_of-And fs) (λ d. under-And d fs)
    (λ f there. held PlainOutside es f there
    (all_at is_plain_formula fs f (sym (is_plain_formula-And fs) ∙ p) there))
plain_outside_at (Formula-F.Or es) p =
    let fs : List Formula = map (λ e. e.0) es in
    plain_parts (Or fs) fs (terms_of-Or fs) (λ d. under-Or d fs)
    (λ f there. held PlainOutside es f there
    (all_at is_plain_formula fs f (sym (is_plain_formula-Or fs) ∙ p) there))
plain_outside_at (Formula-F.Not e) p =
    plain_one (Not e.0) e.0 (terms_of-Not e.0) (λ d. under-Not d e.0)
    (e.1 (sym (is_plain_formula-Not e.0) ∙ p))
plain_outside_at (Formula-F.Implies d e) p =
    let both : (is_plain_formula d.0 && is_plain_formula e.0) ≡ true =
    sym (is_plain_formula-Implies d.0 e.0) ∙ p in
    plain_two (Implies d.0 e.0) d.0 e.0 (terms_of-Implies d.0 e.0)
    (λ n. under-Implies n d.0 e.0) (d.1 (and_left _ _ both)) (e.1 (and_right _ _ both))
plain_outside_at (Formula-F.Iff d e) p =
    let both : (is_plain_formula d.0 && is_plain_formula e.0) ≡ true =
    sym (is_plain_formula-Iff d.0 e.0) ∙ p in
    plain_two (Iff d.0 e.0) d.0 e.0 (terms_of-Iff d.0 e.0)
    (λ n. under-Iff n d.0 e.0) (d.1 (and_left _ _ both)) (e.1 (and_right _ _ both))
plain_outside_at (Formula-F.Forall q) p =
    let clash : false ≡ true = sym (is_plain_formula-Forall q.0) ∙ p in cc
plain_outside_at (Formula-F.Exists q) p =
    let clash : false ≡ true = sym (is_plain_formula-Exists q.0) ∙ p in cc
plain_outside_at (Formula-F.Eq s t) p =
    plain_pair (Eq s t) s t (terms_of-Eq s t) (λ d. under-Eq d s t)
    (sym (is_plain_formula-Eq s t) ∙ p)
plain_outside_at (Formula-F.Less s t) p =
    plain_pair (Less s t) s t (terms_of-Less s t) (λ d. under-Less d s t)
    (sym (is_plain_formula-Less s t) ∙ p)
plain_outside_at (Formula-F.Distinct ts) p = record {
  terms = λ u h.
      let found = Contains-flat_map subterms ts u
      (subst (λ (us : List Term). Contains us u) (terms_of-Distinct ts) h) in
      plain_inside found.0
      (all_at is_plain_term ts found.0 (sym (is_plain_formula-Distinct ts) ∙ p) found.1) u found.2;
  unquantified = λ d. under-Distinct d ts;
}
plain_outside_at (Formula-F.LabelPos name e) p =
    plain_one (LabelPos name e.0) e.0 (terms_of-LabelPos name e.0)
    (λ d. under-LabelPos d name e.0) (e.1 (sym (is_plain_formula-LabelPos name e.0) ∙ p))
plain_outside_at (Formula-F.LabelNeg name e) p =
    plain_one (LabelNeg name e.0) e.0 (terms_of-LabelNeg name e.0)
    (λ d. under-LabelNeg d name e.0) (e.1 (sym (is_plain_formula-LabelNeg name e.0) ∙ p))

plain_outside : (f : Formula) → PlainOutside f
plain_outside = ind-Formula PlainOutside Any_quant
    (λ x y is. subst (λ z. PlainOutside (roll-Formula z)) is (plain_outside_at y))
    (λ x y is. tt)

-- ---- goals

module _ (assumed : List Formula) (goal : Formula)
    (plain : list_all is_plain_formula assumed ≡ true)
    (goal_is : is_plain_formula goal ≡ true) where
  abbrev with_goal : List Formula
  with_goal = assumed ++ Not goal ∷ []

  each_plain : (f : Formula) → Contains with_goal f → BringsNothing f
  each_plain f h =
      elim (Contains-append_cases assumed (Not goal ∷ []) f h) [
        | inl there ↦ plain_outside f (all_at is_plain_formula assumed f plain there)
        | inr last ↦
            elim (Contains-cases (Not goal) [] f last) [
              | inl same ↦
                  subst BringsNothing same
                  (plain_outside (Not goal) (is_plain_formula-Not goal ∙ goal_is))
              | inr none ↦ absurd (Contains-none f none)
            ]
      ]

  plain_base : IsPlain (base_of assumed goal)
  plain_base = record {
    unquantified = flat_none (λ f. quantified_under f 0) with_goal
        (λ f h. (each_plain f h).unquantified 0);
    no_stores = λ m i x h.
        let found = Contains-flat_map terms_of with_goal (store m i x) h in
        no_store m i x ((each_plain found.0 found.1).terms (store m i x) found.2);
  }

pub plain_goal_is_plain : PlainGoalIsPlain
plain_goal_is_plain = plain_base
