-- The parts of an occurrence are there and smaller, and what expands to a literal may be one.
use Rattle.std.proofs.Common.{◌≡◌, ℕ, suc, ◌+◌, ◌≤◌, ◌<◌, Bool, true, false, not, List, [], ◌∷◌, ◌++◌}
use Rattle.std.proofs.Common.{Some, None, Option, length, map, refl, ap, sym, subst, ◌∙◌}
use Rattle.std.proofs.Common.{arith, length-append}
use Rattle.std.specs.Prelude.{IsTrue}
use Rattle.std.specs.List.{All, flat_map}
use Rattle.std.specs.Option.{IsSome, IsSomeAnd, option_map, option_map_or}
use Rattle.std.proofs.lemmas.List.{append-nil}
use Rattle.std.proofs.lemmas.List.Elements.{All-cons, All-nil}
use denote.Hole.Carrier.{roll}
use Rattle.esc_term.specs.declared.formula.Formula.{Formula, out-Formula}
use Rattle.esc_term.specs.declared.formula.Formula.TheVariants as formula
use Rattle.esc_term.specs.declared.formula.Formula.TheOpen.{Formula-F}
use Rattle.esc_term.specs.declared.formula.Formula.TheViews.{roll-Formula, roll-out-Formula}
use Rattle.esc_term.specs.declared.formula.Quant.{Quant}
use Rattle.esc_term.specs.declared.formula.Item.{Item}
use Rattle.esc_cover.specs.Counterexample.{is_literal_form}
use Rattle.esc_clause.specs.Expansion.{Expansion, AllOf, OneOfEach, Never, Literal, expanded}
use Rattle.esc_clause.specs.Expansion.{expanded_form, from_place, left_at, parts_at, right_at}
use Rattle.esc_clause.specs.Occurrences.{formula_at, item_at, occurrences_of, signed, size_of}
use Rattle.esc_clause.specs.declared.occurrence.Occurrence.{Occurrence}
use Rattle.esc_clause.proofs.OccurrencesLevels as levels
use Rattle.esc_clause.proofs.Places.{parts_there}
use Rattle.esc_live.specs.StandingInside.{IsLiteralAt}

-- how many occurrences the formula there has
abbrev pub size_at : List Formula → Occurrence → ℕ
size_at fs at = option_map_or size_of (formula_at fs at) 0

abbrev pub sizes_at : List Formula → List Occurrence → ℕ
sizes_at fs [] = 0
sizes_at fs (p ∷ ps) = size_at fs p + sizes_at fs ps

-- it is one of the fact, and there
pub record IsPartIn (fs : List Formula) (fact : ℕ) (p : Occurrence) : Type 0 where
  pub fact_is : p.fact ≡ fact
  pub there : IsSome (formula_at fs p)

pub record ArePartsOf (fs : List Formula) (fact size : ℕ) (ps : List Occurrence) : Type 0 where
  pub parts : All (IsPartIn fs fact) ps
  pub smaller : suc (sizes_at fs ps) ≤ size

module _ (fs : List Formula) where
  there_by : (o : Occurrence) (f : Formula) → formula_at fs o ≡ Some f → IsSome (formula_at fs o)
  there_by o f e = subst IsSome (sym e) refl

  size_is : (o : Occurrence) (f : Formula) → formula_at fs o ≡ Some f → size_at fs o ≡ size_of f
  size_is o f e = ap (λ r. option_map_or size_of r 0) e

  parts_in : (fact place : ℕ) (positive : Bool) (qs : List Formula)
      → map (formula_at fs) (from_place fact place positive qs) ≡ map (λ q. Some q) qs
      → All (IsPartIn fs fact) (from_place fact place positive qs)
      × (sizes_at fs (from_place fact place positive qs)
      ≡ length (flat_map occurrences_of qs))
  parts_in fact place positive [] e = (All-nil (IsPartIn fs fact), refl)
  parts_in fact place positive (q ∷ qs) e =
      let o : Occurrence = record { fact = fact; place = place; positive = positive } in
      let here : formula_at fs o ≡ Some q = cc in
      let rest = parts_in fact (place + size_of q) positive qs (cc) in (
        All-cons (IsPartIn fs fact) o (from_place fact (place + size_of q) positive qs)
            (record { fact_is = refl; there = there_by o q here }) rest.0,
        ap (λ n. n + sizes_at fs (from_place fact (place + size_of q) positive qs))
            (size_is o q here)
            ∙ (ap (λ n. size_of q + n) rest.1
            ∙ sym (length-append (occurrences_of q) (flat_map occurrences_of qs))),
      )

  -- the parts of one formula
  one_there : (at : Occurrence) (f p : Formula) (s : Bool) → formula_at fs at ≡ Some f
      → occurrences_of f ≡ f ∷ occurrences_of p → formula_at fs (left_at at s) ≡ Some p
  one_there at f p s there is =
      let all =
      parts_there fs at f true (p ∷ []) there
      (is ∙ ap (λ os. f ∷ os) (sym (append-nil (occurrences_of p)))) in
      cc

  two_there : (at : Occurrence) (f p q : Formula) (s t : Bool) → formula_at fs at ≡ Some f
      → occurrences_of f ≡ f ∷ (occurrences_of p ++ occurrences_of q) →
      (formula_at fs (left_at at s) ≡ Some p) × (formula_at fs (right_at at p t) ≡ Some q)
  two_there at f p q s t there is =
      let all =
      parts_there fs at f true (p ∷ q ∷ []) there
      (is ∙ ap (λ os. f ∷ (occurrences_of p ++ os)) (sym (append-nil (occurrences_of q)))) in
      (cc, cc)

  module _ (at : Occurrence) where
    none : (size : ℕ) → 0 < size → ArePartsOf fs at.fact size []
    none size more = record { parts = All-nil (IsPartIn fs at.fact); smaller = omega (arith, more) }

    many : (f : Formula) (positive : Bool) (qs : List Formula) → formula_at fs at ≡ Some f
        → occurrences_of f ≡ f ∷ flat_map occurrences_of qs
        → ArePartsOf fs at.fact (size_of f) (parts_at at positive qs)
    many f positive qs there is =
        let all = parts_in at.fact (at.place + 1) positive qs
        (parts_there fs at f positive qs there is) in
        record {
          parts = all.0;
          smaller = omega (arith, all.1, ap length is);
        }

    one : (f q : Formula) (positive : Bool) → formula_at fs at ≡ Some f
        → occurrences_of f ≡ f ∷ occurrences_of q
        → ArePartsOf fs at.fact (size_of f) (left_at at positive ∷ [])
    one f q positive there is =
        let here = one_there at f q positive there is in
        record {
          parts = All-cons (IsPartIn fs at.fact) (left_at at positive) []
              (record { fact_is = refl; there = there_by (left_at at positive) q here })
              (All-nil (IsPartIn fs at.fact));
          smaller = omega (arith, size_is (left_at at positive) q here, ap length is);
        }

    two : (f p q : Formula) (s t : Bool) → formula_at fs at ≡ Some f
        → occurrences_of f ≡ f ∷ (occurrences_of p ++ occurrences_of q)
        → ArePartsOf fs at.fact (size_of f) (left_at at s ∷ right_at at p t ∷ [])
    two f p q s t there is =
        let here = two_there at f p q s t there is in
        record {
          parts = All-cons (IsPartIn fs at.fact) (left_at at s) (right_at at p t ∷ [])
              (record { fact_is = refl; there = there_by (left_at at s) p here.0 })
              (All-cons (IsPartIn fs at.fact) (right_at at p t) []
              (record { fact_is = refl; there = there_by (right_at at p t) q here.1 })
              (All-nil (IsPartIn fs at.fact)));
          smaller = omega (
            arith,
            size_is (left_at at s) p here.0,
            size_is (right_at at p t) q here.1,
            ap length is,
            length-append (occurrences_of p) (occurrences_of q),
          );
        }

    -- ---- each form

    of_all : (size : ℕ) (ps qs : List Occurrence) → AllOf ps ≡ AllOf qs
        → ArePartsOf fs at.fact size ps → ArePartsOf fs at.fact size qs
    of_all size ps qs e = subst (ArePartsOf fs at.fact size) (cc)

    by_form : (form : Formula-F Formula Quant) (positive : Bool) (ps : List Occurrence)
        → formula_at fs at ≡ Some (roll-Formula form) → expanded_form at form positive ≡ AllOf ps
        → ArePartsOf fs at.fact (size_of (roll-Formula form)) ps
    unfolding roll-Formula roll
    by_form Formula-F.True true ps there e =
        of_all _ [] ps e (none _ (omega (arith, ap length levels.occurrences_of-True)))
    by_form Formula-F.True false ps there e = absurd (cc)
    by_form Formula-F.False true ps there e = absurd (cc)
    by_form Formula-F.False false ps there e =
        of_all _ [] ps e (none _ (omega (arith, ap length levels.occurrences_of-False)))
    by_form (Formula-F.And qs) true ps there e =
        of_all _ _ ps e (many (formula.And qs) true qs there (levels.occurrences_of-And qs))
    by_form (Formula-F.And qs) false ps there e = absurd (cc)
    by_form (Formula-F.Or qs) true ps there e = absurd (cc)
    by_form (Formula-F.Or qs) false ps there e =
        of_all _ _ ps e (many (formula.Or qs) false qs there (levels.occurrences_of-Or qs))
    by_form (Formula-F.Not q) positive ps there e =
        of_all _ _ ps e (one (formula.Not q) q (not positive) there (levels.occurrences_of-Not q))
    by_form (Formula-F.Implies p q) true ps there e = absurd (cc)
    by_form (Formula-F.Implies p q) false ps there e =
        of_all _ _ ps e (two (formula.Implies p q) p q true false there
        (levels.occurrences_of-Implies p q))
    by_form (Formula-F.Iff p q) true ps there e = absurd (cc)
    by_form (Formula-F.Iff p q) false ps there e = absurd (cc)
    by_form (Formula-F.Distinct ts) true ps there e = absurd (cc)
    by_form (Formula-F.Distinct ts) false ps there e = absurd (cc)
    by_form (Formula-F.LabelPos name q) positive ps there e =
        of_all _ _ ps e (one (formula.LabelPos name q) q positive there
        (levels.occurrences_of-LabelPos name q))
    by_form (Formula-F.LabelNeg name q) positive ps there e =
        of_all _ _ ps e (one (formula.LabelNeg name q) q positive there
        (levels.occurrences_of-LabelNeg name q))
    by_form (Formula-F.Forall q) positive ps there e = absurd (cc)
    by_form (Formula-F.Exists q) positive ps there e = absurd (cc)
    by_form (Formula-F.Eq s t) positive ps there e = absurd (cc)
    by_form (Formula-F.Less s t) positive ps there e = absurd (cc)

    literal_form : (form : Formula-F Formula Quant) (positive : Bool)
        → expanded_form at form positive ≡ Literal → is_literal_form form positive ≡ true
    literal_form Formula-F.True true e = absurd (cc)
    literal_form Formula-F.True false e = absurd (cc)
    literal_form Formula-F.False true e = absurd (cc)
    literal_form Formula-F.False false e = absurd (cc)
    literal_form (Formula-F.And qs) true e = absurd (cc)
    literal_form (Formula-F.And qs) false e = absurd (cc)
    literal_form (Formula-F.Or qs) true e = absurd (cc)
    literal_form (Formula-F.Or qs) false e = absurd (cc)
    literal_form (Formula-F.Not q) positive e = absurd (cc)
    literal_form (Formula-F.Implies p q) true e = absurd (cc)
    literal_form (Formula-F.Implies p q) false e = absurd (cc)
    literal_form (Formula-F.Iff p q) true e = absurd (cc)
    literal_form (Formula-F.Iff p q) false e = absurd (cc)
    literal_form (Formula-F.Distinct ts) true e = refl
    literal_form (Formula-F.Distinct ts) false e = absurd (cc)
    literal_form (Formula-F.LabelPos name q) positive e = absurd (cc)
    literal_form (Formula-F.LabelNeg name q) positive e = absurd (cc)
    literal_form (Formula-F.Forall q) positive e = refl
    literal_form (Formula-F.Exists q) positive e = refl
    literal_form (Formula-F.Eq s t) positive e = refl
    literal_form (Formula-F.Less s t) positive e = refl

-- the parts of an occurrence that is there are there
pub parts_are : (fs : List Formula) (at : Occurrence) (ps : List Occurrence)
    → IsSome (formula_at fs at) → expanded fs at ≡ AllOf ps
    → ArePartsOf fs at.fact (size_at fs at) ps
parts_are fs at ps there e = go (formula_at fs at) refl there e
  where
    go : (o : Option Formula) → formula_at fs at ≡ o → IsSome o
        → option_map_or (λ f. expanded_form at (out-Formula f) at.positive) o (AllOf []) ≡ AllOf ps
        → ArePartsOf fs at.fact (option_map_or size_of o 0) ps
    go (Some f) is some expands =
        subst (λ g. ArePartsOf fs at.fact (size_of g) ps) (roll-out-Formula f)
        (by_form fs at (out-Formula f) at.positive ps
        (is ∙ ap (λ g. Some g) (sym (roll-out-Formula f))) expands)
    go None is some expands = absurd (cc)

pub literal_is : (fs : List Formula) (at : Occurrence) → expanded fs at ≡ Literal
    → IsLiteralAt fs at
literal_is fs at e = go (formula_at fs at) e
  where
    go : (o : Option Formula)
        → option_map_or (λ f. expanded_form at (out-Formula f) at.positive) o (AllOf []) ≡ Literal
        → IsSomeAnd (option_map (signed at.positive) o)
        (λ item. IsTrue (is_literal_form (out-Formula item.formula) item.positive))
    go (Some f) expands = literal_form fs at (out-Formula f) at.positive expands
    go None expands = absurd (cc)
