-- What is said of a formula, and what is said of what it expands to.
use Rattle.std.proofs.Common.{◌≡◌, ◌⊎◌, inl, inr, ℕ, suc, zero, ◌+◌, Bool, true, false, ◌&&◌}
use Rattle.std.proofs.Common.{if◌then◌else◌, List, [], ◌∷◌, ◌++◌, Some, map, Any, refl, ap, sym}
use Rattle.std.proofs.Common.{subst, ◌∙◌, arith}
use Rattle.std.proofs.lemmas.List.{append-nil}
use Rattle.std.proofs.lemmas.List.Elements.{All-nil, All-cons, All-head, All-tail}
use Rattle.std.proofs.lemmas.List.Folds.{Any-from_list_any}
use Rattle.std.proofs.lemmas.List.Sums.{AllPass-from_list_all}
use Rattle.std.specs.List.{All, flat_map, list_any}
use Rattle.std.specs.Option.{IsSomeAnd, option_map}
use denote.Hole.Carrier.{roll}
use Rattle.esc_term.specs.declared.term.Term.{Term}
use Rattle.esc_term.specs.declared.formula.Formula.{Formula}
use Rattle.esc_term.specs.declared.formula.Formula.TheVariants as formula
use Rattle.esc_term.specs.declared.formula.Formula.TheOpen.{Formula-F}
use Rattle.esc_term.specs.declared.formula.Formula.TheViews.{roll-Formula}
use Rattle.esc_term.specs.declared.formula.Quant.{Quant}
use Rattle.esc_term.specs.declared.formula.Item.{Item}
use Rattle.esc_cover.specs.Atoms.{pair_equations}
use Rattle.esc_cover.specs.Cover.{Cover}
use Rattle.esc_cover.proofs.CoverOrder.{GoesByParts}
use Rattle.esc_cover.proofs.TestLemmas.{or_cases, and_left, and_right}
use Rattle.esc_clause.specs.Expansion.{expanded_form, from_place, left_at, parts_at, right_at}
use Rattle.esc_clause.specs.Laws.{ExpansionIsSo, IsSo}
use Rattle.esc_clause.specs.Occurrences.{formula_at, occurrences_of, signed, size_of}
use Rattle.esc_clause.specs.declared.occurrence.Occurrence.{Occurrence}
use Rattle.esc_clause.proofs.OccurrencesLevels as levels
use Rattle.esc_clause.proofs.Places.{parts_there, flat_pairs}

-- ---- lists

any_here : {X : Type 0} (P : X → Type 0) (x : X) (xs : List X) → P x → Any P (x ∷ xs)
any_here P x xs h = (0, x, omega arith, refl, h)

any_later : {X : Type 0} (P : X → Type 0) (x : X) (xs : List X) → Any P xs → Any P (x ∷ xs)
any_later P x xs any = (suc any.0, any.1, omega (arith, any.2), any.3, any.4)

any_cases : {X : Type 0} (P : X → Type 0) (x : X) (xs : List X) → Any P (x ∷ xs) → P x ⊎ Any P xs
any_cases P x xs (zero, y, l, is, h) = inl (subst P (sym is) h)
any_cases P x xs (suc k, y, l, is, h) = inr (k, y, omega (arith, l), is, h)

any_none : {X : Type 0} (P : X → Type 0) → Any P [] → ⊥
any_none P any = absurd (omega (arith, any.2))

-- ---- one occurrence, and occurrences side by side

module _ (says : Item → Type 0) (fs : List Formula) where
  pub so_at : (o : Occurrence) (f : Formula) → formula_at fs o ≡ Some f
      → says (signed o.positive f) → IsSo says fs o
  so_at o f e h = subst (λ r. IsSomeAnd (option_map (signed o.positive) r) says) (sym e) h

  pub so_from : (o : Occurrence) (f : Formula) → formula_at fs o ≡ Some f → IsSo says fs o
      → says (signed o.positive f)
  so_from o f e h = subst (λ r. IsSomeAnd (option_map (signed o.positive) r) says) e h

  all_so : (fact place : ℕ) (positive : Bool) (parts : List Formula)
      → map (formula_at fs) (from_place fact place positive parts) ≡ map (λ p. Some p) parts →
      All (λ p. says (signed positive p)) parts
      → All (IsSo says fs) (from_place fact place positive parts)
  all_so fact place positive [] e all = All-nil (IsSo says fs)
  all_so fact place positive (p ∷ ps) e all =
      let o : Occurrence = record { fact = fact; place = place; positive = positive } in
      All-cons (IsSo says fs) o (from_place fact (place + size_of p) positive ps)
      (so_at o p (cc) (All-head (λ p. says (signed positive p)) p ps all))
      (all_so fact (place + size_of p) positive ps (cc)
      (All-tail (λ p. says (signed positive p)) p ps all))

  pub all_from : (fact place : ℕ) (positive : Bool) (parts : List Formula)
      → map (formula_at fs) (from_place fact place positive parts) ≡ map (λ p. Some p) parts →
      All (IsSo says fs) (from_place fact place positive parts)
      → All (λ p. says (signed positive p)) parts
  all_from fact place positive [] e all = All-nil (λ p. says (signed positive p))
  all_from fact place positive (p ∷ ps) e all =
      let o : Occurrence = record { fact = fact; place = place; positive = positive } in
      All-cons (λ p. says (signed positive p)) p ps
      (so_from o p (cc) (All-head (IsSo says fs) o
      (from_place fact (place + size_of p) positive ps) all))
      (all_from fact (place + size_of p) positive ps (cc)
      (All-tail (IsSo says fs) o (from_place fact (place + size_of p) positive ps) all))

  any_so : (fact place : ℕ) (positive : Bool) (parts : List Formula)
      → map (formula_at fs) (from_place fact place positive parts) ≡ map (λ p. Some p) parts →
      Any (λ p. says (signed positive p)) parts
      → Any (IsSo says fs) (from_place fact place positive parts)
  any_so fact place positive [] e any = absurd (any_none (λ p. says (signed positive p)) any)
  any_so fact place positive (p ∷ ps) e any =
      let o : Occurrence = record { fact = fact; place = place; positive = positive } in
      let here : formula_at fs o ≡ Some p = cc in
      let rest : map (formula_at fs) (from_place fact (place + size_of p) positive ps)
      ≡ map (λ p. Some p) ps = cc in
      elim (any_cases (λ p. says (signed positive p)) p ps any) [
        | inl h ↦ any_here (IsSo says fs) o (from_place fact (place + size_of p) positive ps)
            (so_at o p here h)
        | inr h ↦ any_later (IsSo says fs) o (from_place fact (place + size_of p) positive ps)
            (any_so fact (place + size_of p) positive ps rest h)
      ]

  pub any_from : (fact place : ℕ) (positive : Bool) (parts : List Formula)
      → map (formula_at fs) (from_place fact place positive parts) ≡ map (λ p. Some p) parts →
      Any (IsSo says fs) (from_place fact place positive parts)
      → Any (λ p. says (signed positive p)) parts
  any_from fact place positive [] e any = absurd (any_none (IsSo says fs) any)
  any_from fact place positive (p ∷ ps) e any =
      let o : Occurrence = record { fact = fact; place = place; positive = positive } in
      let here : formula_at fs o ≡ Some p = cc in
      let rest : map (formula_at fs) (from_place fact (place + size_of p) positive ps)
      ≡ map (λ p. Some p) ps = cc in
      elim (any_cases (IsSo says fs) o (from_place fact (place + size_of p) positive ps) any) [
        | inl h ↦ any_here (λ p. says (signed positive p)) p ps (so_from o p here h)
        | inr h ↦ any_later (λ p. says (signed positive p)) p ps
            (any_from fact (place + size_of p) positive ps rest h)
      ]

  pub pair_cases : (a b : Occurrence) → Any (IsSo says fs) (a ∷ b ∷ [])
      → IsSo says fs a ⊎ IsSo says fs b
  pair_cases a b any =
      elim (any_cases (IsSo says fs) a (b ∷ []) any) [
        | inl h ↦ inl h
        | inr h ↦ elim (any_cases (IsSo says fs) b [] h) [
          | inl k ↦ inr k
          | inr k ↦ absurd (any_none _ k)
        ]
      ]

  pair_first : (a b : Occurrence) → IsSo says fs a → Any (IsSo says fs) (a ∷ b ∷ [])
  pair_first a b h = any_here _ a (b ∷ []) h

  pair_second : (a b : Occurrence) → IsSo says fs b → Any (IsSo says fs) (a ∷ b ∷ [])
  pair_second a b h = any_later _ a (b ∷ []) (any_here _ b [] h)

  -- the parts of one formula
  pub one_there : (at : Occurrence) (f p : Formula) (s : Bool) → formula_at fs at ≡ Some f
      → occurrences_of f ≡ f ∷ occurrences_of p → formula_at fs (left_at at s) ≡ Some p
  one_there at f p s there is =
      let all =
      parts_there fs at f true (p ∷ []) there
      (is ∙ ap (λ os. f ∷ os) (sym (append-nil (occurrences_of p)))) in
      cc

  pub two_there : (at : Occurrence) (f p q : Formula) (s t : Bool) → formula_at fs at ≡ Some f
      → occurrences_of f ≡ f ∷ (occurrences_of p ++ occurrences_of q) →
      (formula_at fs (left_at at s) ≡ Some p) × (formula_at fs (right_at at p t) ≡ Some q)
  two_there at f p q s t there is =
      let all =
      parts_there fs at f true (p ∷ q ∷ []) there
      (is ∙ ap (λ os. f ∷ (occurrences_of p ++ os)) (sym (append-nil (occurrences_of q)))) in
      (cc, cc)

-- ---- each form

pub distinct_parts : (ts : List Term)
    → occurrences_of (formula.Distinct ts)
    ≡ formula.Distinct ts ∷ flat_map occurrences_of (pair_equations ts)
distinct_parts ts =
    levels.occurrences_of-Distinct ts ∙ ap (λ os. formula.Distinct ts ∷ os) (sym (flat_pairs ts))

abbrev pub is_said : (Formula → Cover) → Item → Bool
is_said says item = if item.positive then (says item.formula).holds else (says item.formula).fails

abbrev pub IsSaid : (Formula → Cover) → Item → Type 0
IsSaid says item = is_said says item ≡ true

-- what is said of the constants and of distinctions
pub record GoesByPairs (says : Formula → Cover) : Type 0 where
  pub true_fails : (says formula.True).fails ≡ true → ⊥
  pub false_holds : (says formula.False).holds ≡ true → ⊥
  pub distinct : (ts : List Term)
      → (says (formula.Distinct ts)).fails ≡ list_any (λ p. (says p).holds) (pair_equations ts)

module _ (says : Formula → Cover) (by_parts : GoesByParts says) (by_pairs : GoesByPairs says)
    (fs : List Formula) where
  abbrev So : Occurrence → Type 0
  So o = IsSo (IsSaid says) fs o

  parts_here : (at : Occurrence) (f : Formula) (positive : Bool) (ps : List Formula)
      → formula_at fs at ≡ Some f → occurrences_of f ≡ f ∷ flat_map occurrences_of ps →
      map (formula_at fs) (from_place at.fact (at.place + 1) positive ps) ≡ map (λ p. Some p) ps
  parts_here at f positive ps there is = parts_there fs at f positive ps there is

  one_clause : (c : List Occurrence) → Any So c → All (Any So) (c ∷ [])
  one_clause c h = All-cons (Any So) c [] h (All-nil (Any So))

  two_clauses : (c d : List Occurrence) → Any So c → Any So d → All (Any So) (c ∷ d ∷ [])
  two_clauses c d h k = All-cons (Any So) c (d ∷ []) h (one_clause d k)

  one_part : (o : Occurrence) → So o → All So (o ∷ [])
  one_part o h = All-cons So o [] h (All-nil So)

  two_parts : (o p : Occurrence) → So o → So p → All So (o ∷ p ∷ [])
  two_parts o p h k = All-cons So o (p ∷ []) h (one_part p k)

  pub said_parts : (at : Occurrence) (form : Formula-F Formula Quant) (positive : Bool)
      → formula_at fs at ≡ Some (roll-Formula form) →
      IsSaid says (signed positive (roll-Formula form))
      → ExpansionIsSo (IsSaid says) fs (expanded_form at form positive)
  unfolding roll-Formula roll
  said_parts at Formula-F.True true there e = All-nil So
  said_parts at Formula-F.True false there e = by_pairs.true_fails e
  said_parts at Formula-F.False true there e = by_pairs.false_holds e
  said_parts at Formula-F.False false there e = All-nil So
  said_parts at (Formula-F.And ps) true there e =
      all_so (IsSaid says) fs at.fact (at.place + 1) true ps
      (parts_here at (formula.And ps) true ps there (levels.occurrences_of-And ps))
      (AllPass-from_list_all (λ f. (says f).holds) ps
      (sym (ap (λ c. c.holds) (by_parts.of_And ps)) ∙ e))
  said_parts at (Formula-F.And ps) false there e =
      one_clause (parts_at at false ps)
      (any_so (IsSaid says) fs at.fact (at.place + 1) false ps
      (parts_here at (formula.And ps) false ps there (levels.occurrences_of-And ps))
      (Any-from_list_any (λ f. (says f).fails) ps
      (sym (ap (λ c. c.fails) (by_parts.of_And ps)) ∙ e)))
  said_parts at (Formula-F.Or ps) true there e =
      one_clause (parts_at at true ps)
      (any_so (IsSaid says) fs at.fact (at.place + 1) true ps
      (parts_here at (formula.Or ps) true ps there (levels.occurrences_of-Or ps))
      (Any-from_list_any (λ f. (says f).holds) ps
      (sym (ap (λ c. c.holds) (by_parts.of_Or ps)) ∙ e)))
  said_parts at (Formula-F.Or ps) false there e =
      all_so (IsSaid says) fs at.fact (at.place + 1) false ps
      (parts_here at (formula.Or ps) false ps there (levels.occurrences_of-Or ps))
      (AllPass-from_list_all (λ f. (says f).fails) ps
      (sym (ap (λ c. c.fails) (by_parts.of_Or ps)) ∙ e))
  said_parts at (Formula-F.Not p) true there e =
      one_part (left_at at false) (so_at (IsSaid says) fs (left_at at false) p
      (one_there (IsSaid says) fs at (formula.Not p) p false there (levels.occurrences_of-Not p))
      (sym (ap (λ c. c.holds) (by_parts.of_Not p)) ∙ e))
  said_parts at (Formula-F.Not p) false there e =
      one_part (left_at at true) (so_at (IsSaid says) fs (left_at at true) p
      (one_there (IsSaid says) fs at (formula.Not p) p true there (levels.occurrences_of-Not p))
      (sym (ap (λ c. c.fails) (by_parts.of_Not p)) ∙ e))
  said_parts at (Formula-F.Implies p q) true there e =
      let two =
      two_there (IsSaid says) fs at (formula.Implies p q) p q false true there
      (levels.occurrences_of-Implies p q) in
      one_clause _ (elim (or_cases (says p).fails (says q).holds
      (sym (ap (λ c. c.holds) (by_parts.of_Implies p q)) ∙ e)) [
        | inl h ↦ pair_first (IsSaid says) fs (left_at at false) (right_at at p true)
            (so_at (IsSaid says) fs (left_at at false) p two.0 h)
        | inr h ↦ pair_second (IsSaid says) fs (left_at at false) (right_at at p true)
            (so_at (IsSaid says) fs (right_at at p true) q two.1 h)
      ])
  said_parts at (Formula-F.Implies p q) false there e =
      let two =
      two_there (IsSaid says) fs at (formula.Implies p q) p q true false there
      (levels.occurrences_of-Implies p q) in
      let both : ((says p).holds && (says q).fails) ≡ true =
      sym (ap (λ c. c.fails) (by_parts.of_Implies p q)) ∙ e in
      two_parts (left_at at true) (right_at at p false)
      (so_at (IsSaid says) fs (left_at at true) p two.0
      (and_left (says p).holds (says q).fails both))
      (so_at (IsSaid says) fs (right_at at p false) q two.1
      (and_right (says p).holds (says q).fails both))
  said_parts at (Formula-F.Iff p q) true there e =
      let one =
      two_there (IsSaid says) fs at (formula.Iff p q) p q false true there
      (levels.occurrences_of-Iff p q) in
      let other =
      two_there (IsSaid says) fs at (formula.Iff p q) p q true false there
      (levels.occurrences_of-Iff p q) in
      elim (or_cases ((says p).holds && (says q).holds) ((says p).fails && (says q).fails)
      (sym (ap (λ c. c.holds) (by_parts.of_Iff p q)) ∙ e)) [
        | inl h ↦ two_clauses _ _
            (pair_second (IsSaid says) fs (left_at at false) (right_at at p true)
            (so_at (IsSaid says) fs (right_at at p true) q one.1
            (and_right (says p).holds (says q).holds h)))
            (pair_first (IsSaid says) fs (left_at at true) (right_at at p false)
            (so_at (IsSaid says) fs (left_at at true) p other.0
            (and_left (says p).holds (says q).holds h)))
        | inr h ↦ two_clauses _ _
            (pair_first (IsSaid says) fs (left_at at false) (right_at at p true)
            (so_at (IsSaid says) fs (left_at at false) p one.0
            (and_left (says p).fails (says q).fails h)))
            (pair_second (IsSaid says) fs (left_at at true) (right_at at p false)
            (so_at (IsSaid says) fs (right_at at p false) q other.1
            (and_right (says p).fails (says q).fails h)))
      ]
  said_parts at (Formula-F.Iff p q) false there e =
      let one =
      two_there (IsSaid says) fs at (formula.Iff p q) p q true true there
      (levels.occurrences_of-Iff p q) in
      let other =
      two_there (IsSaid says) fs at (formula.Iff p q) p q false false there
      (levels.occurrences_of-Iff p q) in
      elim (or_cases ((says p).holds && (says q).fails) ((says p).fails && (says q).holds)
      (sym (ap (λ c. c.fails) (by_parts.of_Iff p q)) ∙ e)) [
        | inl h ↦ two_clauses _ _
            (pair_first (IsSaid says) fs (left_at at true) (right_at at p true)
            (so_at (IsSaid says) fs (left_at at true) p one.0
            (and_left (says p).holds (says q).fails h)))
            (pair_second (IsSaid says) fs (left_at at false) (right_at at p false)
            (so_at (IsSaid says) fs (right_at at p false) q other.1
            (and_right (says p).holds (says q).fails h)))
        | inr h ↦ two_clauses _ _
            (pair_second (IsSaid says) fs (left_at at true) (right_at at p true)
            (so_at (IsSaid says) fs (right_at at p true) q one.1
            (and_right (says p).fails (says q).holds h)))
            (pair_first (IsSaid says) fs (left_at at false) (right_at at p false)
            (so_at (IsSaid says) fs (left_at at false) p other.0
            (and_left (says p).fails (says q).holds h)))
      ]
  said_parts at (Formula-F.Distinct ts) true there e = tt
  said_parts at (Formula-F.Distinct ts) false there e =
      one_clause (parts_at at true (pair_equations ts))
      (any_so (IsSaid says) fs at.fact (at.place + 1) true (pair_equations ts)
      (parts_here at (formula.Distinct ts) true (pair_equations ts) there (distinct_parts ts))
      (Any-from_list_any (λ f. (says f).holds) (pair_equations ts)
      (sym (by_pairs.distinct ts) ∙ e)))
  said_parts at (Formula-F.LabelPos name p) true there e =
      one_part (left_at at true) (so_at (IsSaid says) fs (left_at at true) p
      (one_there (IsSaid says) fs at (formula.LabelPos name p) p true there
      (levels.occurrences_of-LabelPos name p))
      (sym (ap (λ c. c.holds) (by_parts.of_LabelPos name p)) ∙ e))
  said_parts at (Formula-F.LabelPos name p) false there e =
      one_part (left_at at false) (so_at (IsSaid says) fs (left_at at false) p
      (one_there (IsSaid says) fs at (formula.LabelPos name p) p false there
      (levels.occurrences_of-LabelPos name p))
      (sym (ap (λ c. c.fails) (by_parts.of_LabelPos name p)) ∙ e))
  said_parts at (Formula-F.LabelNeg name p) true there e =
      one_part (left_at at true) (so_at (IsSaid says) fs (left_at at true) p
      (one_there (IsSaid says) fs at (formula.LabelNeg name p) p true there
      (levels.occurrences_of-LabelNeg name p))
      (sym (ap (λ c. c.holds) (by_parts.of_LabelNeg name p)) ∙ e))
  said_parts at (Formula-F.LabelNeg name p) false there e =
      one_part (left_at at false) (so_at (IsSaid says) fs (left_at at false) p
      (one_there (IsSaid says) fs at (formula.LabelNeg name p) p false there
      (levels.occurrences_of-LabelNeg name p))
      (sym (ap (λ c. c.fails) (by_parts.of_LabelNeg name p)) ∙ e))
  said_parts at (Formula-F.Forall q) positive there e = tt
  said_parts at (Formula-F.Exists q) positive there e = tt
  said_parts at (Formula-F.Eq s t) positive there e = tt
  said_parts at (Formula-F.Less s t) positive there e = tt
