-- The terms in play for formulas and one more, and which of them are arithmetic.
use Rattle.std.proofs.Common.{◌≡◌, ◌⊎◌, inl, inr, true, List, [], ◌∷◌, ◌++◌, refl, ap, sym, subst}
use Rattle.std.proofs.Common.{cond, ◌∙◌}
use Rattle.std.specs.List.{Contains, filter, flat_map, fold, list_all}
use Rattle.std.proofs.lemmas.Bool.{and_parts}
use Rattle.std.proofs.lemmas.List.Elements.{Contains-append_cases, Contains-append_left}
use Rattle.std.proofs.lemmas.List.Elements.{Contains-push}
use Rattle.esc_term.specs.declared.term.Head.TheVariants.{Name, Skolem, Add, Sub, Mul}
use Rattle.esc_term.specs.declared.term.Term.{Term, out-Term}
use Rattle.esc_term.specs.declared.term.Term.TheVariants.{rolls-App}
use Rattle.esc_term.specs.declared.term.Term.TheOpen.{Term-F}
use Rattle.esc_term.specs.declared.term.Term.TheViews.{roll-Term, roll-out-Term}
use Rattle.esc_term.specs.declared.formula.Formula.{Formula, out-Formula}
use Rattle.esc_term.specs.Formula.{is_closed, terms_of}
use Rattle.esc_term.specs.Interpretation.{domain_of}
use Rattle.esc_term.specs.Term.{is_ground, truth_term, with_once}
use Rattle.esc_term.proofs.ClosedFormulas.{closed_has_ground_terms}
use Rattle.esc_term.proofs.GroundTerms.{collected-both, is_ground-App}
use Rattle.esc_term.proofs.Members.{Contains-flat_map, Contains-in_flat_map, Contains-later}
use Rattle.esc_term.proofs.Members.{Contains-cases, Contains-none}
use Rattle.esc_term.proofs.Wholes.{IsWhole, domain-whole, terms_of-whole}
use Rattle.esc_cover.specs.Arithmetic.{is_arithmetic, is_arithmetic_in, is_number, operands}
use Rattle.esc_cover.specs.Arithmetic.{operands_form, order_sides, order_sides_form}
use Rattle.esc_cover.specs.Atoms.{atoms_of}
use Rattle.esc_cover.specs.Classes.{active_terms, has}
use Rattle.esc_cover.proofs.ActiveTerms.{active, of_active}
use Rattle.esc_cover.proofs.TestLemmas.{all_at, has-at, has-found, kept, of_kept, or_cases, or_left}
use Rattle.esc_cover.proofs.TestLemmas.{or_right}
use Rattle.esc_sharing.proofs.Lists.{All-each, flat_map-push}
use Rattle.esc_outcome.specs.Jam.{IsNumberOf}
use Rattle.esc_outcome.proofs.Numbers.{IsNumberOf-among}
use Rattle.esc_play.specs.WalkingInside.{arithmetic_of, sides_in}
use Rattle.esc_play.proofs.Bringing.{in_first, in_second, in_third, parts_of}
use Rattle.esc_play.proofs.FormulaForms.{sides_within}

-- ---- what a sum, a difference or a product is made of

operand_in : (ts : List Term) → IsWhole ts → (x : Term-F Term) (t : Term)
    → Contains ts (roll-Term x) → Contains (operands_form x) t → Contains ts t
operand_in ts whole (Term-F.App Add args) t h k =
    whole.args Add args t (subst (Contains ts) (rolls-App Add args) h) k
operand_in ts whole (Term-F.App Sub args) t h k =
    whole.args Sub args t (subst (Contains ts) (rolls-App Sub args) h) k
operand_in ts whole (Term-F.App Mul args) t h k =
    whole.args Mul args t (subst (Contains ts) (rolls-App Mul args) h) k
operand_in ts whole (Term-F.App (Name name) args) t h k = absurd (Contains-none t k)
operand_in ts whole (Term-F.App (Skolem n i) args) t h k = absurd (Contains-none t k)
operand_in ts whole (Term-F.Num n) t h k = absurd (Contains-none t k)
operand_in ts whole (Term-F.Var n) t h k = absurd (Contains-none t k)

-- with a term, a list that has its arguments has what it is made of
operand_there : (ts : List Term) → IsWhole ts → (u t : Term) → Contains ts u
    → Contains (operands_form (out-Term u)) t → Contains ts t
operand_there ts whole u t h k =
    operand_in ts whole (out-Term u) t (subst (Contains ts) (sym (roll-out-Term u)) h) k

operand_ground : (x : Term-F Term) (t : Term) → is_ground (roll-Term x) ≡ true
    → Contains (operands_form x) t → is_ground t ≡ true
operand_ground (Term-F.App Add args) t g k =
    all_at is_ground args t
    (sym (is_ground-App Add args) ∙ (ap is_ground (sym (rolls-App Add args)) ∙ g)) k
operand_ground (Term-F.App Sub args) t g k =
    all_at is_ground args t
    (sym (is_ground-App Sub args) ∙ (ap is_ground (sym (rolls-App Sub args)) ∙ g)) k
operand_ground (Term-F.App Mul args) t g k =
    all_at is_ground args t
    (sym (is_ground-App Mul args) ∙ (ap is_ground (sym (rolls-App Mul args)) ∙ g)) k
operand_ground (Term-F.App (Name name) args) t g k = absurd (Contains-none t k)
operand_ground (Term-F.App (Skolem n i) args) t g k = absurd (Contains-none t k)
operand_ground (Term-F.Num n) t g k = absurd (Contains-none t k)
operand_ground (Term-F.Var n) t g k = absurd (Contains-none t k)

ground_there : (u t : Term) → is_ground u ≡ true → Contains (operands_form (out-Term u)) t
    → is_ground t ≡ true
ground_there u t g k =
    operand_ground (out-Term u) t (ap is_ground (roll-out-Term u) ∙ g) k

-- ---- which of the terms in play are arithmetic

abbrev operands_at : Term → List Term
operands_at u = operands_form (out-Term u)

module _ (gs : List Formula) (t : Term) (there : Contains (active_terms gs) t) where
  number_form : is_number t ≡ true → IsNumberOf gs t
  number_form is = kept (is_arithmetic gs) (active_terms gs) t there
      (or_left (is_arithmetic_in (active_terms gs) t) (has (order_sides gs) t)
      (or_left (is_number t) (has (operands (active_terms gs)) t) is))

  number_operand : Contains (operands (active_terms gs)) t → IsNumberOf gs t
  number_operand is = kept (is_arithmetic gs) (active_terms gs) t there
      (or_left (is_arithmetic_in (active_terms gs) t) (has (order_sides gs) t)
      (or_right (is_number t) (has (operands (active_terms gs)) t)
      (has-at (operands (active_terms gs)) t is)))

  number_side : Contains (order_sides gs) t → IsNumberOf gs t
  number_side is = kept (is_arithmetic gs) (active_terms gs) t there
      (or_right (is_arithmetic_in (active_terms gs) t) (has (order_sides gs) t)
      (has-at (order_sides gs) t is))

-- the sides of orders, formula by formula
module _ (gs : List Formula) (t : Term) where
  side_of : Contains (order_sides gs) t
      → (g : Formula) × Contains gs g × Contains (sides_in g) t
  side_of h =
      let atom = Contains-flat_map (λ (a : Formula). order_sides_form (out-Formula a))
      (flat_map atoms_of gs) t h in
      let at = Contains-flat_map atoms_of gs atom.0 atom.1 in (
        at.0,
        at.1,
        Contains-in_flat_map (λ (a : Formula). order_sides_form (out-Formula a)) (atoms_of at.0)
            atom.0 t at.2 atom.2,
      )

  side_among : (g : Formula) → Contains gs g → Contains (sides_in g) t
      → Contains (order_sides gs) t
  side_among g h k =
      let atom = Contains-flat_map (λ (a : Formula). order_sides_form (out-Formula a))
      (atoms_of g) t k in
      Contains-in_flat_map (λ (a : Formula). order_sides_form (out-Formula a))
      (flat_map atoms_of gs) atom.0 t (Contains-in_flat_map atoms_of gs g atom.0 h atom.1) atom.2

  term_among : (g : Formula) → Contains gs g → Contains (terms_of g) t → Contains (domain_of gs) t
  term_among g h k =
      Contains-later truth_term (flat_map terms_of gs) t
      (Contains-in_flat_map terms_of gs g t h k)

-- ---- a closed formula among others

module _ (gs : List Formula) (f : Formula) (closed : is_closed f ≡ true)
    (among : Contains gs f) where
  in_play : (t : Term) → Contains (terms_of f) t → Contains (active_terms gs) t
  in_play t h = active gs t (term_among gs t f among h)
      (all_at is_ground (terms_of f) t (closed_has_ground_terms f closed) h)

  -- what becomes arithmetic by it is so for all of them
  pub becomes_number : (t : Term) → Contains (arithmetic_of (terms_of f) (sides_in f)) t
      → IsNumberOf gs t
  becomes_number t h =
      elim (parts_of t (filter is_number (terms_of f)) (operands (terms_of f)) (sides_in f) h) [
        | inl form ↦
            let found = of_kept is_number (terms_of f) t form in
            number_form gs t (in_play t found.0) found.1
        | inr (inl operand) ↦
            let found = Contains-flat_map operands_at (terms_of f) t operand in
            number_operand gs t
            (in_play t (operand_there (terms_of f) (terms_of-whole f) found.0 t found.1 found.2))
            (Contains-in_flat_map operands_at (active_terms gs) found.0 t
            (in_play found.0 found.1) found.2)
        | inr (inr side) ↦
            number_side gs t (in_play t (sides_within f t side)) (side_among gs t f among side)
      ]

-- ---- one more formula

module _ (fs : List Formula) (f : Formula) where
  abbrev more : List Formula
  more = fs ++ f ∷ []

  abbrev Becomes : Term → Type 0
  Becomes t = Contains (arithmetic_of (terms_of f) (sides_in f)) t

  domain_is : domain_of more ≡ domain_of fs ++ terms_of f
  domain_is = ap (λ ts. truth_term ∷ ts) (flat_map-push terms_of fs f)

  -- a term in play was so for the others, or stands in the new one
  was_or_new : (t : Term) → Contains (active_terms more) t
      → Contains (active_terms fs) t ⊎ Contains (terms_of f) t
  was_or_new t h =
      let found = of_active more t h in
      elim (Contains-append_cases (domain_of fs) (terms_of f) t
      (subst (λ ts. Contains ts t) domain_is found.0)) [
        | inl old ↦ inl (active fs t old found.1)
        | inr new ↦ inr new
      ]

  by_form : (t : Term) → Contains (active_terms more) t → is_number t ≡ true
      → IsNumberOf fs t ⊎ Becomes t
  by_form t h is = elim (was_or_new t h) [
    | inl old ↦ inl (number_form fs t old is)
    | inr new ↦ inr (in_first t (filter is_number (terms_of f)) (operands (terms_of f))
        (sides_in f) (kept is_number (terms_of f) t new is))
  ]

  by_operand : (t : Term) → Contains (operands (active_terms more)) t
      → IsNumberOf fs t ⊎ Becomes t
  by_operand t h =
      let found = Contains-flat_map operands_at (active_terms more) t h in
      elim (was_or_new found.0 found.1) [
        | inl old ↦
            let at = of_active fs found.0 old in
            inl (number_operand fs t
            (active fs t (operand_there (domain_of fs) (domain-whole fs) found.0 t at.0 found.2)
            (ground_there found.0 t at.1 found.2))
            (Contains-in_flat_map operands_at (active_terms fs) found.0 t old found.2))
        | inr new ↦ inr (in_second t (filter is_number (terms_of f)) (operands (terms_of f))
            (sides_in f) (Contains-in_flat_map operands_at (terms_of f) found.0 t new found.2))
      ]

  by_side : (t : Term) → Contains (active_terms more) t → Contains (order_sides more) t
      → IsNumberOf fs t ⊎ Becomes t
  by_side t h side =
      let found = side_of more t side in
      elim (Contains-append_cases fs (f ∷ []) found.0 found.1) [
        | inl old ↦ inl (number_side fs t
            (active fs t (term_among fs t found.0 old (sides_within found.0 t found.2))
            (of_active more t h).1)
            (side_among fs t found.0 old found.2))
        | inr new ↦ inr (in_third t (filter is_number (terms_of f)) (operands (terms_of f))
            (sides_in f)
            (subst (λ g. Contains (sides_in g) t) (sym (of_one found.0 new)) found.2))
      ]
    where
      of_one : (g : Formula) → Contains (f ∷ []) g → f ≡ g
      of_one g h = elim (Contains-cases f [] g h) [
        | inl same ↦ same
        | inr none ↦ absurd (Contains-none g none)
      ]

  -- an arithmetic term was so for the others, or becomes so by the new one
  pub number_or_new : (t : Term) → IsNumberOf more t → IsNumberOf fs t ⊎ Becomes t
  number_or_new t h =
      let found = of_kept (is_arithmetic more) (active_terms more) t h in
      elim (or_cases (is_arithmetic_in (active_terms more) t) (has (order_sides more) t) found.1) [
        | inl inside ↦
            elim (or_cases (is_number t) (has (operands (active_terms more)) t) inside) [
              | inl form ↦ by_form t found.0 form
              | inr operand ↦ by_operand t (has-found (operands (active_terms more)) t operand)
            ]
        | inr side ↦ by_side t found.0 (has-found (order_sides more) t side)
      ]

  pub was_number : (t : Term) → IsNumberOf fs t → IsNumberOf more t
  was_number = IsNumberOf-among fs more
      (All-each (Contains more) fs (λ g h. Contains-append_left fs (f ∷ []) g h))

  pub new_number : is_closed f ≡ true → (t : Term) → Becomes t → IsNumberOf more t
  new_number closed t h = becomes_number more f closed (Contains-push fs f) t h

  -- the terms in play, each once
  pub active_terms-push : is_closed f ≡ true
      → active_terms more ≡ fold with_once (active_terms fs) (terms_of f)
  active_terms-push closed =
      ap (λ ts. fold with_once [] (filter is_ground ts)) domain_is
      ∙ (collected-both [] (domain_of fs) (terms_of f)
      ∙ ap (fold with_once (active_terms fs))
      (filter_all (terms_of f) (closed_has_ground_terms f closed)))
    where
      filter_all : (ts : List Term) → list_all is_ground ts ≡ true → filter is_ground ts ≡ ts
      filter_all [] h = refl
      filter_all (t ∷ ts) h =
          let parts = and_parts (is_ground t) (list_all is_ground ts) h in
          ap (λ b. cond b (t ∷ filter is_ground ts) (filter is_ground ts)) parts.0
          ∙ ap (λ us. t ∷ us) (filter_all ts parts.1)
