-- What is said of what a formula expands to is said of the formula.
use Rattle.std.proofs.Common.{◌≡◌, ◌⊎◌, inl, inr, ◌+◌, Bool, true, false, ◌&&◌, ◌||◌, List, [], ◌∷◌}
use Rattle.std.proofs.Common.{◌++◌, Some, Any, refl, ap, ◌∙◌}
use Rattle.std.proofs.lemmas.List.Elements.{All-head, All-tail}
use Rattle.std.proofs.lemmas.List.Folds.{list_any-from_Any}
use Rattle.std.proofs.lemmas.List.Sums.{list_all-from_AllPass}
use Rattle.std.specs.List.{All, flat_map}
use denote.Hole.Carrier.{roll}
use Rattle.esc_term.specs.declared.formula.Formula.{Formula}
use Rattle.esc_term.specs.declared.formula.Formula.TheVariants as formula
use Rattle.esc_term.specs.declared.formula.Formula.TheOpen.{Formula-F}
use Rattle.esc_term.specs.declared.formula.Formula.TheViews.{roll-Formula}
use Rattle.esc_term.specs.declared.formula.Quant.{Quant}
use Rattle.esc_cover.specs.Atoms.{pair_equations}
use Rattle.esc_cover.specs.Cover.{Cover}
use Rattle.esc_cover.proofs.CoverOrder.{GoesByParts}
use Rattle.esc_cover.proofs.TestLemmas.{or_left, or_right, and_both}
use Rattle.esc_clause.specs.Expansion.{Literal, expanded_form, left_at, parts_at, right_at}
use Rattle.esc_clause.specs.Laws.{ExpansionIsSo, IsSo}
use Rattle.esc_clause.specs.Occurrences.{formula_at, occurrences_of, signed}
use Rattle.esc_clause.specs.declared.occurrence.Occurrence.{Occurrence}
use Rattle.esc_clause.proofs.OccurrencesLevels as levels
use Rattle.esc_clause.proofs.Places.{parts_there}
use Rattle.esc_clause.proofs.Expanding.{GoesByPairs, IsSaid, all_from, any_from, pair_cases}
use Rattle.esc_clause.proofs.Expanding.{one_there, two_there, so_from, distinct_parts}

module _ (says : Formula → Cover) (by_parts : GoesByParts says) (by_pairs : GoesByPairs says)
    (twice : (f : Formula) → (says f).holds ≡ true → (says f).fails ≡ true → ⊥)
    (fs : List Formula) where
  abbrev So : Occurrence → Type 0
  So o = IsSo (IsSaid says) fs o

  first_clause : (c : List Occurrence) (cs : List (List Occurrence))
      → All (Any So) (c ∷ cs) → Any So c
  first_clause c cs all = All-head (Any So) c cs all

  second_clause : (c d : List Occurrence) → All (Any So) (c ∷ d ∷ []) → Any So d
  second_clause c d all = first_clause d [] (All-tail (Any So) c (d ∷ []) all)

  all_parts : (at : Occurrence) (f : Formula) (positive : Bool) (ps : List Formula)
      → formula_at fs at ≡ Some f → occurrences_of f ≡ f ∷ flat_map occurrences_of ps →
      All So (parts_at at positive ps) → All (λ p. IsSaid says (signed positive p)) ps
  all_parts at f positive ps there is all =
      all_from (IsSaid says) fs at.fact (at.place + 1) positive ps
      (parts_there fs at f positive ps there is) all

  any_part : (at : Occurrence) (f : Formula) (positive : Bool) (ps : List Formula)
      → formula_at fs at ≡ Some f → occurrences_of f ≡ f ∷ flat_map occurrences_of ps →
      Any So (parts_at at positive ps) → Any (λ p. IsSaid says (signed positive p)) ps
  any_part at f positive ps there is any =
      any_from (IsSaid says) fs at.fact (at.place + 1) positive ps
      (parts_there fs at f positive ps there is) any

  one_said : (at : Occurrence) (f p : Formula) (s : Bool) → formula_at fs at ≡ Some f
      → occurrences_of f ≡ f ∷ occurrences_of p →
      All So (left_at at s ∷ []) → IsSaid says (signed s p)
  one_said at f p s there is all =
      so_from (IsSaid says) fs (left_at at s) p (one_there (IsSaid says) fs at f p s there is)
      (All-head So (left_at at s) [] all)

  two_said : (at : Occurrence) (f p q : Formula) (s t : Bool) → formula_at fs at ≡ Some f
      → occurrences_of f ≡ f ∷ (occurrences_of p ++ occurrences_of q) →
      All So (left_at at s ∷ right_at at p t ∷ [])
      → IsSaid says (signed s p) × IsSaid says (signed t q)
  two_said at f p q s t there is all =
      let two = two_there (IsSaid says) fs at f p q s t there is in (
        so_from (IsSaid says) fs (left_at at s) p two.0
            (All-head So (left_at at s) (right_at at p t ∷ []) all),
        so_from (IsSaid says) fs (right_at at p t) q two.1
            (All-head So (right_at at p t) []
            (All-tail So (left_at at s) (right_at at p t ∷ []) all)),
      )

  one_of_two : (at : Occurrence) (f p q : Formula) (s t : Bool) → formula_at fs at ≡ Some f
      → occurrences_of f ≡ f ∷ (occurrences_of p ++ occurrences_of q) →
      Any So (left_at at s ∷ right_at at p t ∷ [])
      → IsSaid says (signed s p) ⊎ IsSaid says (signed t q)
  one_of_two at f p q s t there is any =
      let two = two_there (IsSaid says) fs at f p q s t there is in
      elim (pair_cases (IsSaid says) fs (left_at at s) (right_at at p t) any) [
        | inl h ↦ inl (so_from (IsSaid says) fs (left_at at s) p two.0 h)
        | inr h ↦ inr (so_from (IsSaid says) fs (right_at at p t) q two.1 h)
      ]

  -- of two formulas both or neither, from two clauses
  both_or_neither : (a b : Bool) (c d : Bool) → (a ≡ true → b ≡ true → ⊥)
      → (c ≡ true → d ≡ true → ⊥) →
      (b ≡ true) ⊎ (c ≡ true) → (a ≡ true) ⊎ (d ≡ true) → ((a && c) || (b && d)) ≡ true
  both_or_neither a b c d ab cd (inl h) (inl k) = absurd (ab k h)
  both_or_neither a b c d ab cd (inl h) (inr k) = or_right (a && c) (b && d) (and_both b d h k)
  both_or_neither a b c d ab cd (inr h) (inl k) = or_left (a && c) (b && d) (and_both a c k h)
  both_or_neither a b c d ab cd (inr h) (inr k) = absurd (cd h k)

  pub said_whole : (at : Occurrence) (form : Formula-F Formula Quant) (positive : Bool)
      → formula_at fs at ≡ Some (roll-Formula form) →
      ExpansionIsSo (IsSaid says) fs (expanded_form at form positive) →
      IsSaid says (signed positive (roll-Formula form)) ⊎ (expanded_form at form positive ≡ Literal)
  unfolding roll-Formula roll
  said_whole at Formula-F.True true there so = inl by_parts.of_True
  said_whole at Formula-F.True false there so = absurd so
  said_whole at Formula-F.False true there so = absurd so
  said_whole at Formula-F.False false there so = inl by_parts.of_False
  said_whole at (Formula-F.And ps) true there so =
      inl (ap (λ c. c.holds) (by_parts.of_And ps)
      ∙ list_all-from_AllPass (λ f. (says f).holds) ps
      (all_parts at (formula.And ps) true ps there (levels.occurrences_of-And ps) so))
  said_whole at (Formula-F.And ps) false there so =
      inl (ap (λ c. c.fails) (by_parts.of_And ps)
      ∙ list_any-from_Any (λ f. (says f).fails) ps
      (any_part at (formula.And ps) false ps there (levels.occurrences_of-And ps)
      (first_clause _ [] so)))
  said_whole at (Formula-F.Or ps) true there so =
      inl (ap (λ c. c.holds) (by_parts.of_Or ps)
      ∙ list_any-from_Any (λ f. (says f).holds) ps
      (any_part at (formula.Or ps) true ps there (levels.occurrences_of-Or ps)
      (first_clause _ [] so)))
  said_whole at (Formula-F.Or ps) false there so =
      inl (ap (λ c. c.fails) (by_parts.of_Or ps)
      ∙ list_all-from_AllPass (λ f. (says f).fails) ps
      (all_parts at (formula.Or ps) false ps there (levels.occurrences_of-Or ps) so))
  said_whole at (Formula-F.Not p) true there so =
      inl (ap (λ c. c.holds) (by_parts.of_Not p)
      ∙ one_said at (formula.Not p) p false there (levels.occurrences_of-Not p) so)
  said_whole at (Formula-F.Not p) false there so =
      inl (ap (λ c. c.fails) (by_parts.of_Not p)
      ∙ one_said at (formula.Not p) p true there (levels.occurrences_of-Not p) so)
  said_whole at (Formula-F.Implies p q) true there so =
      inl (ap (λ c. c.holds) (by_parts.of_Implies p q)
      ∙ elim (one_of_two at (formula.Implies p q) p q false true there
      (levels.occurrences_of-Implies p q) (first_clause _ [] so)) [
        | inl h ↦ or_left (says p).fails (says q).holds h
        | inr h ↦ or_right (says p).fails (says q).holds h
      ])
  said_whole at (Formula-F.Implies p q) false there so =
      let two =
      two_said at (formula.Implies p q) p q true false there
      (levels.occurrences_of-Implies p q) so in
      inl (ap (λ c. c.fails) (by_parts.of_Implies p q)
      ∙ and_both (says p).holds (says q).fails two.0 two.1)
  said_whole at (Formula-F.Iff p q) true there so =
      inl (ap (λ c. c.holds) (by_parts.of_Iff p q)
      ∙ both_or_neither (says p).holds (says p).fails (says q).holds (says q).fails
      (twice p) (twice q)
      (one_of_two at (formula.Iff p q) p q false true there (levels.occurrences_of-Iff p q)
      (first_clause _ ((left_at at true ∷ right_at at p false ∷ []) ∷ []) so))
      (one_of_two at (formula.Iff p q) p q true false there (levels.occurrences_of-Iff p q)
      (second_clause _ _ so)))
  said_whole at (Formula-F.Iff p q) false there so =
      inl (ap (λ c. c.fails) (by_parts.of_Iff p q)
      ∙ both_or_neither (says p).holds (says p).fails (says q).fails (says q).holds (twice p)
      (λ h k. twice q k h)
      (one_of_two at (formula.Iff p q) p q false false there (levels.occurrences_of-Iff p q)
      (second_clause _ _ so))
      (one_of_two at (formula.Iff p q) p q true true there (levels.occurrences_of-Iff p q)
      (first_clause _ ((left_at at false ∷ right_at at p false ∷ []) ∷ []) so)))
  said_whole at (Formula-F.Distinct ts) true there so = inr refl
  said_whole at (Formula-F.Distinct ts) false there so =
      inl (by_pairs.distinct ts
      ∙ list_any-from_Any (λ f. (says f).holds) (pair_equations ts)
      (any_part at (formula.Distinct ts) true (pair_equations ts) there (distinct_parts ts)
      (first_clause _ [] so)))
  said_whole at (Formula-F.LabelPos name p) true there so =
      inl (ap (λ c. c.holds) (by_parts.of_LabelPos name p)
      ∙ one_said at (formula.LabelPos name p) p true there
      (levels.occurrences_of-LabelPos name p) so)
  said_whole at (Formula-F.LabelPos name p) false there so =
      inl (ap (λ c. c.fails) (by_parts.of_LabelPos name p)
      ∙ one_said at (formula.LabelPos name p) p false there
      (levels.occurrences_of-LabelPos name p) so)
  said_whole at (Formula-F.LabelNeg name p) true there so =
      inl (ap (λ c. c.holds) (by_parts.of_LabelNeg name p)
      ∙ one_said at (formula.LabelNeg name p) p true there
      (levels.occurrences_of-LabelNeg name p) so)
  said_whole at (Formula-F.LabelNeg name p) false there so =
      inl (ap (λ c. c.fails) (by_parts.of_LabelNeg name p)
      ∙ one_said at (formula.LabelNeg name p) p false there
      (levels.occurrences_of-LabelNeg name p) so)
  said_whole at (Formula-F.Forall q) positive there so = inr refl
  said_whole at (Formula-F.Exists q) positive there so = inr refl
  said_whole at (Formula-F.Eq s t) positive there so = inr refl
  said_whole at (Formula-F.Less s t) positive there so = inr refl
