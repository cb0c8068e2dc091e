-- The arithmetic terms of formulas: with one, what it is made of; and with more formulas, no fewer.
use Rattle.std.proofs.Common.{◌≡◌, true, List, ◌∷◌, map, refl, sym, ap, subst, ◌∙◌, inl, inr}
use Rattle.std.specs.List.{All, Contains, flat_map}
use Rattle.std.proofs.lemmas.List.Elements.{All-contains, All-map}
use Rattle.esc_term.specs.declared.term.Head.{Head}
use Rattle.esc_term.specs.declared.term.Head.TheVariants.{Add, Sub, Mul}
use Rattle.esc_term.specs.declared.term.Term.{Term, out-Term}
use Rattle.esc_term.specs.declared.term.Term.TheVariants.{App, rolls-App}
use Rattle.esc_term.specs.declared.term.Term.TheOpen.{Term-F}
use Rattle.esc_term.specs.declared.term.Term.TheViews.{out-roll-Term}
use Rattle.esc_term.specs.declared.formula.Formula.{Formula, out-Formula}
use Rattle.esc_term.specs.Formula.{terms_of}
use Rattle.esc_term.specs.Interpretation.{domain_of}
use Rattle.esc_term.specs.Term.{is_ground, truth_term}
use Rattle.esc_term.proofs.GroundTerms.{is_ground-App}
use Rattle.esc_term.proofs.Members.{Contains-cases, Contains-flat_map, Contains-here}
use Rattle.esc_term.proofs.Members.{Contains-in_flat_map, Contains-later}
use Rattle.esc_term.proofs.Wholes.{domain-whole}
use Rattle.esc_linear.specs.Forms.{form}
use Rattle.esc_linear.specs.declared.form.Part.{Part}
use Rattle.esc_linear.proofs.LinLaw.{AllParts}
use Rattle.esc_cover.specs.Arithmetic.{is_arithmetic, is_arithmetic_in, is_number, operands}
use Rattle.esc_cover.specs.Arithmetic.{operands_form, order_sides, order_sides_form}
use Rattle.esc_cover.specs.Atoms.{atoms_of}
use Rattle.esc_cover.specs.Classes.{active_terms, has}
use Rattle.esc_cover.proofs.ActiveTerms.{active, of_active}
use Rattle.esc_cover.proofs.TestLemmas.{all_at, has-at, has-found, kept, of_kept, or_cases, or_left}
use Rattle.esc_cover.proofs.TestLemmas.{or_right}
use Rattle.esc_simplex.specs.Senses.{Sense, gap_of, term}
use Rattle.esc_sharing.specs.Numbers.{MayStandFor, with_parts}
use Rattle.esc_sharing.proofs.Lists.{All-each}
use Rattle.esc_outcome.specs.Jam.{IsNumberOf, IsSenseOf}
use Rattle.esc_outcome.proofs.FormParts.{HasOperands, parts_within}

-- ---- arguments

module _ (fs : List Formula) where
  -- an argument of a term in play is in play
  active_arg : (head : Head) (ts : List Term) (t : Term) → Contains (active_terms fs) (App head ts)
      → Contains ts t → Contains (active_terms fs) t
  active_arg head ts t h k =
      let found = of_active fs (App head ts) h in
      active fs t ((domain-whole fs).args head ts t found.0 k)
      (all_at is_ground ts t (sym (is_ground-App head ts) ∙ found.1) k)

  -- a term in play whose form holds the other is arithmetic
  number_by : (s t : Term) → Contains (active_terms fs) s → Contains (active_terms fs) t
      → Contains (operands_form (out-Term s)) t → IsNumberOf fs t
  number_by s t h k inside =
      kept (is_arithmetic fs) (active_terms fs) t k
      (or_left (is_arithmetic_in (active_terms fs) t) (has (order_sides fs) t)
      (or_right (is_number t) (has (operands (active_terms fs)) t)
      (has-at (operands (active_terms fs)) t
      (Contains-in_flat_map (λ (u : Term). operands_form (out-Term u)) (active_terms fs) s t h
      inside))))

  out-App : (head : Head) (ts : List Term) → out-Term (App head ts) ≡ Term-F.App head ts
  out-App head ts = ap out-Term (sym (rolls-App head ts)) ∙ out-roll-Term (Term-F.App head ts)

  args_are_numbers : (head : Head) (ts : List Term) → operands_form (Term-F.App head ts) ≡ ts
      → IsNumberOf fs (App head ts) → All (IsNumberOf fs) ts
  args_are_numbers head ts e h =
      let there = (of_kept (is_arithmetic fs) (active_terms fs) (App head ts) h).0 in
      All-each (IsNumberOf fs) ts (λ t k.
      number_by (App head ts) t there (active_arg head ts t there k)
      (subst (λ us. Contains us t) (sym (ap operands_form (out-App head ts) ∙ e)) k))

  pub operands_of : HasOperands (IsNumberOf fs)
  operands_of = record {
    sum = λ ts. args_are_numbers Add ts refl;
    difference = λ ts. args_are_numbers Sub ts refl;
    product = λ ts. args_are_numbers Mul ts refl;
  }

  pub parts_are_numbers : (t : Term) → IsNumberOf fs t → AllParts (IsNumberOf fs) t
  parts_are_numbers = parts_within (IsNumberOf fs) operands_of

-- ---- more formulas

module _ (fs gs : List Formula) (among : All (Contains gs) fs) where
  flat_map-among : {X : Type 0} (f : Formula → List X) (x : X) → Contains (flat_map f fs) x
      → Contains (flat_map f gs) x
  flat_map-among f x h =
      let found = Contains-flat_map f fs x h in
      Contains-in_flat_map f gs found.0 x (All-contains (Contains gs) fs found.0 among found.1)
      found.2

  pub active-among : (t : Term) → Contains (active_terms fs) t → Contains (active_terms gs) t
  active-among t h =
      let found = of_active fs t h in
      active gs t
      (elim (Contains-cases truth_term (flat_map terms_of fs) t found.0) [
        | inl is ↦ subst (Contains (domain_of gs)) is
            (Contains-here truth_term (flat_map terms_of gs))
        | inr later ↦ Contains-later truth_term (flat_map terms_of gs) t
            (flat_map-among terms_of t later)
      ]) found.1

  operands-among : (t : Term) → Contains (operands (active_terms fs)) t
      → Contains (operands (active_terms gs)) t
  operands-among t h =
      let form_of = λ (u : Term). operands_form (out-Term u) in
      let found = Contains-flat_map form_of (active_terms fs) t h in
      Contains-in_flat_map form_of (active_terms gs) found.0 t (active-among found.0 found.1)
      found.2

  order_sides-among : (t : Term) → Contains (order_sides fs) t → Contains (order_sides gs) t
  order_sides-among t h =
      let sides = λ (atom : Formula). order_sides_form (out-Formula atom) in
      let found = Contains-flat_map sides (flat_map atoms_of fs) t h in
      Contains-in_flat_map sides (flat_map atoms_of gs) found.0 t
      (flat_map-among atoms_of found.0 found.1) found.2

  has-among : (ts us : List Term) (t : Term) → (Contains ts t → Contains us t) → has ts t ≡ true
      → has us t ≡ true
  has-among ts us t among h = has-at us t (among (has-found ts t h))

  arithmetic-among : (t : Term) → is_arithmetic fs t ≡ true → is_arithmetic gs t ≡ true
  arithmetic-among t h =
      let inside = is_arithmetic_in (active_terms gs) t in
      elim (or_cases (is_arithmetic_in (active_terms fs) t) (has (order_sides fs) t) h) [
        | inl form ↦ or_left inside (has (order_sides gs) t)
            (elim (or_cases (is_number t) (has (operands (active_terms fs)) t) form) [
              | inl number ↦ or_left (is_number t) (has (operands (active_terms gs)) t) number
              | inr part ↦ or_right (is_number t) (has (operands (active_terms gs)) t)
                  (has-among (operands (active_terms fs)) (operands (active_terms gs)) t
                  (operands-among t) part)
            ])
        | inr side ↦ or_right inside (has (order_sides gs) t)
            (has-among (order_sides fs) (order_sides gs) t (order_sides-among t) side)
      ]

  pub IsNumberOf-among : (t : Term) → IsNumberOf fs t → IsNumberOf gs t
  IsNumberOf-among t h =
      let found = of_kept (is_arithmetic fs) (active_terms fs) t h in
      kept (is_arithmetic gs) (active_terms gs) t (active-among t found.0)
      (arithmetic-among t found.1)

  pub IsSenseOf-among : (s : Sense) → IsSenseOf fs s → IsSenseOf gs s
  IsSenseOf-among (term t) h = IsNumberOf-among t h
  IsSenseOf-among (gap_of g) h = record {
    upper = IsNumberOf-among g.upper h.upper;
    lower = IsNumberOf-among g.lower h.lower;
  }

-- ---- what may be made of arithmetic terms

module _ (fs : List Formula) (ts : List Term) (all : All (IsNumberOf fs) ts) where
  with_parts-numbers : (t : Term) → Contains (with_parts ts) t → IsNumberOf fs t
  with_parts-numbers t h =
      let own = λ (u : Term). u ∷ map (λ (p : Part). p.term) (form u).parts in
      let found = Contains-flat_map own ts t h in
      let is = All-contains (IsNumberOf fs) ts found.0 all found.1 in
      elim (Contains-cases found.0 (map (λ (p : Part). p.term) (form found.0).parts) t found.2) [
        | inl same ↦ subst (IsNumberOf fs) same is
        | inr part ↦ All-contains (IsNumberOf fs) (map (λ (p : Part). p.term) (form found.0).parts)
            t (All-map (IsNumberOf fs) (λ (p : Part). p.term) (form found.0).parts
            (parts_are_numbers fs found.0 is)) part
      ]

  pub IsSenseOf-may : (s : Sense) → MayStandFor ts s → IsSenseOf fs s
  IsSenseOf-may (term t) h = with_parts-numbers t h
  IsSenseOf-may (gap_of g) h = record {
    upper = All-contains (IsNumberOf fs) ts g.upper all h.upper;
    lower = All-contains (IsNumberOf fs) ts g.lower all h.lower;
  }
