-- The occurrences of the pairs of a distinction.
use Rattle.std.proofs.Common.{◌≡◌, ℕ, suc, zero, ◌+◌, ◌-◌, ◌≤◌, true, List, [], ◌∷◌, ◌++◌, length, map}
use Rattle.std.proofs.Common.{refl, ap, ap₂, sym, ◌∙◌, arith}
use Rattle.std.proofs.lemmas.List.Elements.{All-append, All-cons, All-head, All-nil, All-tail}
use Rattle.std.specs.List.{All}
use Rattle.esc_term.specs.declared.term.Term.{Term}
use Rattle.esc_term.specs.declared.formula.Formula.{Formula}
use Rattle.esc_term.specs.declared.formula.Formula.TheVariants as formula
use Rattle.esc_cover.specs.Atoms.{pair_equations}
use Rattle.esc_clause.specs.Expansion.{from_place}
use Rattle.esc_clause.specs.Occurrences.{size_of}
use Rattle.esc_clause.specs.declared.occurrence.Occurrence.{Occurrence}
use Rattle.esc_clause.proofs.OccurrencesLevels as occurrences
use Rattle.esc_book.specs.GroupInside.{pair_count}
use Rattle.esc_book.proofs.Pairs.{length-pair_equations}

abbrev IsSmall : Formula → Type 0
IsSmall f = size_of f ≡ 1

small_with : (t : Term) (ts : List Term) → All IsSmall (map (λ u. formula.Eq t u) ts)
small_with t [] = All-nil IsSmall
small_with t (u ∷ ts) =
    All-cons IsSmall (formula.Eq t u) (map (λ v. formula.Eq t v) ts)
    (ap length (occurrences.occurrences_of-Eq t u)) (small_with t ts)

small_pairs : (ts : List Term) → All IsSmall (pair_equations ts)
small_pairs [] = All-nil IsSmall
small_pairs (t ∷ ts) =
    All-append IsSmall (map (λ u. formula.Eq t u) ts) (pair_equations ts) (small_with t ts)
    (small_pairs ts)

module _ (fact : ℕ) where
  abbrev pub pair_at_place : ℕ → Occurrence
  pair_at_place place = record { fact = fact; place = place; positive = true }

  -- so many occurrences, one place behind the other
  abbrev pub run : ℕ → ℕ → List Occurrence
  run place zero = []
  run place (suc n) = pair_at_place place ∷ run (place + 1) n

  run-more : (place n : ℕ) → run place (suc n) ≡ run place n ++ (pair_at_place (place + n) ∷ [])
  run-more place zero =
      let same : place ≡ place + 0 = omega arith in
      ap (λ p. pair_at_place p ∷ []) same
  run-more place (suc n) =
      let same : place + 1 + n ≡ place + suc n = omega arith in
      ap (λ os. pair_at_place place ∷ os) (run-more (place + 1) n
      ∙ ap (λ p. run (place + 1) n ++ (pair_at_place p ∷ [])) same)

  pub run_step : (from place : ℕ) (parts more : List Occurrence) → from ≤ place
      → parts ≡ run from (place - from) → more ≡ parts ++ (pair_at_place place ∷ [])
      → more ≡ run from (place + 1 - from)
  run_step from place parts more le is pushed =
      let count : suc (place - from) ≡ place + 1 - from = omega (arith, le) in
      let last : from + (place - from) ≡ place = omega (arith, le) in
      pushed ∙ (ap₂ (λ os p. os ++ (pair_at_place p ∷ [])) is (sym last)
      ∙ (sym (run-more from (place - from)) ∙ ap (run from) count))

  small-run : (place : ℕ) (fs : List Formula) → All IsSmall fs
      → from_place fact place true fs ≡ run place (length fs)
  small-run place [] all = refl
  small-run place (f ∷ fs) all =
      ap (λ os. pair_at_place place ∷ os)
      (ap (λ n. from_place fact (place + n) true fs) (All-head IsSmall f fs all)
      ∙ small-run (place + 1) fs (All-tail IsSmall f fs all))

  pub run_done : (from place end count : ℕ) (parts : List Occurrence) (ts : List Term)
      → parts ≡ run from (place - from) → place ≡ end → end ≡ from + pair_count count
      → length ts ≡ count → parts ≡ from_place fact from true (pair_equations ts)
  run_done from place end count parts ts is at_end ends many =
      let counted : pair_count (length ts) ≡ pair_count count = ap pair_count many in
      let all : place - from ≡ length (pair_equations ts) =
      omega (arith, at_end, ends, counted, length-pair_equations ts) in
      is ∙ (ap (run from) all ∙ sym (small-run from (pair_equations ts) (small_pairs ts)))
