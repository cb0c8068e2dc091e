-- What a formula expands to are occurrences of its parts, which are smaller.
use Rattle.std.proofs.Common.{◌≡◌, ℕ, ◌+◌, ◌<◌, Bool, true, false, not, List, [], ◌∷◌, ◌++◌}
use Rattle.std.proofs.Common.{Some, length, map, refl, ap, sym, subst, ◌∙◌, arith, length-append}
use Rattle.std.proofs.lemmas.List.{append-nil}
use Rattle.std.proofs.lemmas.List.Elements.{All-cons, All-contains, All-head, All-nil, All-tail}
use Rattle.std.specs.List.{All, Contains, flat_map}
use Rattle.std.specs.Option.{option_map_or}
use denote.Hole.Carrier.{roll}
use Rattle.esc_term.specs.declared.formula.Formula.{Formula, out-Formula}
use Rattle.esc_term.specs.declared.formula.Formula.TheVariants as formula
use Rattle.esc_term.specs.declared.formula.Formula.TheOpen.{Formula-F}
use Rattle.esc_term.specs.declared.formula.Formula.TheViews.{roll-Formula, roll-out-Formula}
use Rattle.esc_term.specs.declared.formula.Quant.{Quant}
use Rattle.esc_term.proofs.Members.{Contains-none}
use Rattle.esc_cover.specs.Atoms.{pair_equations}
use Rattle.esc_clause.specs.Expansion.{AllOf, Expansion, Literal, Never, OneOfEach, clauses_in}
use Rattle.esc_clause.specs.Expansion.{clauses_of, expanded, expanded_form, from_place, left_at}
use Rattle.esc_clause.specs.Expansion.{parts_at, right_at}
use Rattle.esc_clause.specs.Occurrences.{formula_at, occurrences_of, size_of}
use Rattle.esc_clause.specs.declared.occurrence.Occurrence.{Occurrence}
use Rattle.esc_clause.proofs.OccurrencesLevels as levels
use Rattle.esc_clause.proofs.Places.{flat_pairs, parts_there}

-- of the formula that is there, a smaller one is at the other occurrence
pub record IsPart (fs : List Formula) (at : Occurrence) (f : Formula) (p : Occurrence)
    : Type 0 where
  pub part : Formula
  pub there : formula_at fs p ≡ Some part
  pub fact : p.fact ≡ at.fact
  pub smaller : size_of part < size_of f

-- each occurrence of the expansion is a part
abbrev pub HasParts : List Formula → Occurrence → Formula → Expansion → Type 0
HasParts fs at f (AllOf ps) = All (IsPart fs at f) ps
HasParts fs at f (OneOfEach cs) = All (All (IsPart fs at f)) cs
HasParts fs at f Never = Unit {0}
HasParts fs at f Literal = Unit {0}

module _ (fs : List Formula) (at : Occurrence) (f : Formula) where
  side_by_side : (place : ℕ) (positive : Bool) (parts : List Formula)
      → map (formula_at fs) (from_place at.fact place positive parts) ≡ map (λ p. Some p) parts
      → length (flat_map occurrences_of parts) < size_of f
      → All (IsPart fs at f) (from_place at.fact place positive parts)
  side_by_side place positive [] e l = All-nil (IsPart fs at f)
  side_by_side place positive (p ∷ ps) e l =
      let o : Occurrence = record { fact = at.fact; place = place; positive = positive } in
      let both = length-append (occurrences_of p) (flat_map occurrences_of ps) in
      All-cons (IsPart fs at f) o (from_place at.fact (place + size_of p) positive ps)
      (record { part = p; there = cc; fact = refl; smaller = omega (arith, l, both) })
      (side_by_side (place + size_of p) positive ps (cc) (omega (arith, l, both)))

  module _ (there : formula_at fs at ≡ Some f) where
    are_parts : (positive : Bool) (gs : List Formula)
        → occurrences_of f ≡ f ∷ flat_map occurrences_of gs
        → All (IsPart fs at f) (parts_at at positive gs)
    are_parts positive gs is =
        side_by_side (at.place + 1) positive gs (parts_there fs at f positive gs there is)
        (omega (arith, ap length is))

    single_part : (positive : Bool) (g : Formula) → occurrences_of f ≡ f ∷ occurrences_of g
        → All (IsPart fs at f) (left_at at positive ∷ [])
    single_part positive g is =
        are_parts positive (g ∷ [])
        (is ∙ ap (λ os. f ∷ os) (sym (append-nil (occurrences_of g))))

    two_parts : (first second : Bool) (g h : Formula)
        → occurrences_of f ≡ f ∷ (occurrences_of g ++ occurrences_of h)
        → All (IsPart fs at f) (left_at at first ∷ right_at at g second ∷ [])
    two_parts first second g h is =
        let all =
        are_parts true (g ∷ h ∷ [])
        (is ∙ ap (λ os. f ∷ (occurrences_of g ++ os)) (sym (append-nil (occurrences_of h)))) in
        let left = All-head (IsPart fs at f) (left_at at true) (right_at at g true ∷ []) all in
        let right =
        All-head (IsPart fs at f) (right_at at g true) []
        (All-tail (IsPart fs at f) (left_at at true) (right_at at g true ∷ []) all) in
        All-cons (IsPart fs at f) (left_at at first) (right_at at g second ∷ [])
        (record { part = left.part; there = left.there; fact = refl; smaller = left.smaller })
        (All-cons (IsPart fs at f) (right_at at g second) []
        (record { part = right.part; there = right.there; fact = refl; smaller = right.smaller })
        (All-nil (IsPart fs at f)))

module _ (fs : List Formula) (at : Occurrence) where
  abbrev OfClause : Formula → List Occurrence → Type 0
  OfClause f = All (IsPart fs at f)

  one_clause : (f : Formula) (c : List Occurrence) → OfClause f c
      → All (OfClause f) (c ∷ [])
  one_clause f c all = All-cons (OfClause f) c [] all (All-nil (OfClause f))

  two_clauses : (f : Formula) (c d : List Occurrence) → OfClause f c → OfClause f d
      → All (OfClause f) (c ∷ d ∷ [])
  two_clauses f c d all other =
      All-cons (OfClause f) c (d ∷ []) all (one_clause f d other)

  parts_of_form : (y : Formula-F Formula Quant) (positive : Bool)
      → formula_at fs at ≡ Some (roll-Formula y)
      → HasParts fs at (roll-Formula y) (expanded_form at y positive)
  unfolding roll-Formula roll
  parts_of_form Formula-F.True true e = All-nil (IsPart fs at formula.True)
  parts_of_form Formula-F.True false e = tt
  parts_of_form Formula-F.False true e = tt
  parts_of_form Formula-F.False false e = All-nil (IsPart fs at formula.False)
  parts_of_form (Formula-F.And gs) true e =
      are_parts fs at (formula.And gs) e true gs (levels.occurrences_of-And gs)
  parts_of_form (Formula-F.And gs) false e =
      one_clause (formula.And gs) (parts_at at false gs)
      (are_parts fs at (formula.And gs) e false gs (levels.occurrences_of-And gs))
  parts_of_form (Formula-F.Or gs) true e =
      one_clause (formula.Or gs) (parts_at at true gs)
      (are_parts fs at (formula.Or gs) e true gs (levels.occurrences_of-Or gs))
  parts_of_form (Formula-F.Or gs) false e =
      are_parts fs at (formula.Or gs) e false gs (levels.occurrences_of-Or gs)
  parts_of_form (Formula-F.Not g) positive e =
      single_part fs at (formula.Not g) e (not positive) g (levels.occurrences_of-Not g)
  parts_of_form (Formula-F.Implies g h) true e =
      one_clause (formula.Implies g h) (left_at at false ∷ right_at at g true ∷ [])
      (two_parts fs at (formula.Implies g h) e false true g h (levels.occurrences_of-Implies g h))
  parts_of_form (Formula-F.Implies g h) false e =
      two_parts fs at (formula.Implies g h) e true false g h (levels.occurrences_of-Implies g h)
  parts_of_form (Formula-F.Iff g h) true e =
      two_clauses (formula.Iff g h) (left_at at false ∷ right_at at g true ∷ [])
      (left_at at true ∷ right_at at g false ∷ [])
      (two_parts fs at (formula.Iff g h) e false true g h (levels.occurrences_of-Iff g h))
      (two_parts fs at (formula.Iff g h) e true false g h (levels.occurrences_of-Iff g h))
  parts_of_form (Formula-F.Iff g h) false e =
      two_clauses (formula.Iff g h) (left_at at true ∷ right_at at g true ∷ [])
      (left_at at false ∷ right_at at g false ∷ [])
      (two_parts fs at (formula.Iff g h) e true true g h (levels.occurrences_of-Iff g h))
      (two_parts fs at (formula.Iff g h) e false false g h (levels.occurrences_of-Iff g h))
  parts_of_form (Formula-F.Distinct ts) true e = tt
  parts_of_form (Formula-F.Distinct ts) false e =
      one_clause (formula.Distinct ts) (parts_at at true (pair_equations ts))
      (are_parts fs at (formula.Distinct ts) e true (pair_equations ts)
      (levels.occurrences_of-Distinct ts
      ∙ ap (λ os. formula.Distinct ts ∷ os) (sym (flat_pairs ts))))
  parts_of_form (Formula-F.LabelPos name g) positive e =
      single_part fs at (formula.LabelPos name g) e positive g
      (levels.occurrences_of-LabelPos name g)
  parts_of_form (Formula-F.LabelNeg name g) positive e =
      single_part fs at (formula.LabelNeg name g) e positive g
      (levels.occurrences_of-LabelNeg name g)
  parts_of_form (Formula-F.Forall quant) positive e = tt
  parts_of_form (Formula-F.Exists quant) positive e = tt
  parts_of_form (Formula-F.Eq s t) positive e = tt
  parts_of_form (Formula-F.Less s t) positive e = tt

  -- what stands there expands to parts of it
  pub expanded-parts : (f : Formula) → formula_at fs at ≡ Some f
      → HasParts fs at f (expanded fs at)
  expanded-parts f e =
      subst (λ o. HasParts fs at f (option_map_or
      (λ g. expanded_form at (out-Formula g) at.positive) o (AllOf []))) (sym e)
      (subst (λ g. HasParts fs at g (expanded_form at (out-Formula f) at.positive))
      (roll-out-Formula f)
      (parts_of_form (out-Formula f) at.positive
      (e ∙ ap (λ g. Some g) (sym (roll-out-Formula f)))))

  -- an item of a clause that it makes is a part
  pub clause_part : (f : Formula) → formula_at fs at ≡ Some f → (c : List Occurrence)
      → Contains (clauses_of fs at) c → (p : Occurrence) → Contains c p → IsPart fs at f p
  clause_part f e c among p h = go (expanded fs at) (expanded-parts f e) among
    where
      go : (x : Expansion) → HasParts fs at f x → Contains (clauses_in x) c → IsPart fs at f p
      go (AllOf ps) parts there = absurd (Contains-none c there)
      go (OneOfEach cs) parts there =
          All-contains (IsPart fs at f) c p (All-contains (OfClause f) cs c parts there) h
      go Never parts there = absurd (Contains-none c there)
      go Literal parts there = absurd (Contains-none c there)
