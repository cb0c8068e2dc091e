-- Where each clause is satisfied, all that was expanded is covered.
use Rattle.std.proofs.Common.{◌≡◌, inl, inr, ℕ, zero, suc, ◌<◌, IsTrue, arith}
use Rattle.std.proofs.Common.{List, [], ◌∷◌, Option, Some, None, Any, refl, sym, subst, ◌∙◌}
use Rattle.std.specs.List.{All, Contains, filter, filter_map, slice_get}
use Rattle.std.specs.Option.{IsSome, option_map}
use Rattle.std.proofs.lemmas.List.Elements.{All-cons, All-contains, All-nil}
use Rattle.esc_term.proofs.Members.{Contains-here, Contains-later}
use Rattle.esc_term.specs.declared.formula.Formula.{Formula}
use Rattle.esc_cover.specs.Cover.{cover}
use Rattle.esc_cover.proofs.TestLemmas.{of_kept}
use Rattle.esc_sharing.proofs.Lists.{All-each, Any-contains, Contains-of_map}
use Rattle.esc_clause.specs.ClauseContext.{items_left, left_in}
use Rattle.esc_clause.specs.Expansion.{AllOf, Expansion, Literal, OneOfEach, expanded}
use Rattle.esc_clause.specs.Laws.{ConsistentSaysNothingTwice, ExpansionIsComplete, ExpansionIsSo}
use Rattle.esc_clause.specs.Laws.{IsCovered, IsSo, SaysNothingTwice}
use Rattle.esc_clause.specs.Occurrences.{formula_at, item_at, signed, size_of}
use Rattle.esc_clause.specs.PassesInside.{waiting_of}
use Rattle.esc_clause.specs.declared.decision.Decision.{Decision}
use Rattle.esc_clause.specs.declared.occurrence.Occurrence.{Occurrence}
use Rattle.esc_clause.specs.declared.truth.Truth.TheVariants.{Yes}
use Rattle.esc_book.specs.Book.{IsLiveOccurrence}
use Rattle.esc_live.specs.Expanded.{IsKept, covered, parts, split}
use Rattle.esc_live.specs.Promises.{IsBranch, WasExpanded, decided_as, whole_at}
use Rattle.esc_live.specs.View.{classes_on, judge_on, literals_on, logged}
use Rattle.esc_live.specs.declared.branch.LiveBranch.{LiveBranch}
use Rattle.esc_refine.specs.Refining.{IsDone}
use Rattle.esc_refine.specs.ThinningInside.{truth_on}
use Rattle.esc_refine.proofs.Judged.{judged_covered}
use Rattle.esc_refine.proofs.Parts.{HasParts, IsPart, expanded-parts}
use Rattle.esc_refine.proofs.Told.{all_satisfied, one_held}
use Rattle.esc_refine.proofs.Truths.{decided_is, judged_cases, so_from, some_there}
use Rattle.esc_refine.proofs.Wholes.{formula_at-whole}

-- ---- mapped elements

All-filter_map : {X Y : Type 0} (h : X → Option Y) (P : Y → Type 0) (xs : List X)
    → ((x : X) → Contains xs x → (y : Y) → h x ≡ Some y → P y) → All P (filter_map h xs)
All-filter_map h P [] each = All-nil P
All-filter_map h P (x ∷ xs) each =
    go (h x) refl (All-filter_map h P xs (λ z k. each z (Contains-later x xs z k)))
  where
    go : (o : Option _) → h x ≡ o → All P (filter_map h xs) → All P (filter_map h (x ∷ xs))
    go None e rest = rw e rest
    go (Some y) e rest =
        rw e (All-cons P y (filter_map h xs) (each x (Contains-here x xs) y e) rest)

-- ---- by the size of the formula

module _ (v : LiveBranch) (complete : ExpansionIsComplete)
    (twice : SaysNothingTwice (literals_on v) (classes_on v))
    (none : waiting_of (truth_on v) v.clauses.clauses ≡ [])
    (decided : All (λ d. WasExpanded v (decided_as d)) v.clauses.decisions) where
  abbrev Covered : Occurrence → Type 0
  Covered = IsSo (IsCovered (literals_on v) (classes_on v)) (logged v)

  -- what was expanded there is covered, for formulas below a size
  abbrev AreCoveredBelow : ℕ → Type 0
  AreCoveredBelow n = (at : Occurrence) (f : Formula) → formula_at (logged v) at ≡ Some f
      → size_of f < n → WasExpanded v at → Covered at

  is_there : (at : Occurrence) (f : Formula) → formula_at (logged v) at ≡ Some f
      → IsSome (item_at (logged v) at)
  is_there at f e =
      subst (λ o. IsSome (option_map (signed at.positive) o)) (sym e) refl

  by_expansion : (at : Occurrence) (f : Formula) → formula_at (logged v) at ≡ Some f
      → (x : Expansion) → expanded (logged v) at ≡ x → (x ≡ Literal → ⊥)
      → ExpansionIsSo (IsCovered (literals_on v) (classes_on v)) (logged v) x → Covered at
  by_expansion at f e x is other so =
      elim (complete (literals_on v) (classes_on v) twice (logged v) at (is_there at f e)
      (subst (ExpansionIsSo (IsCovered (literals_on v) (classes_on v)) (logged v)) (sym is) so)) [
        | inl h ↦ h
        | inr literal ↦ absurd (other (sym is ∙ literal))
      ]

  -- an item that holds is covered, or was decided and expanded
  held_covered : (n : ℕ) → AreCoveredBelow n → (p : Occurrence) (g : Formula)
      → formula_at (logged v) p ≡ Some g → size_of g < n → truth_on v p ≡ Yes → Covered p
  held_covered n below p g e l holds =
      elim (judged_cases (judge_on v) v.clauses.decisions p) [
        | inl left ↦ judged_covered v p (sym left.says ∙ holds)
        | inr by ↦ below p g e l
            (subst (WasExpanded v) (sym (decided_is by.decision p by.here (sym by.says ∙ holds)))
            (All-contains (λ d. WasExpanded v (decided_as d)) v.clauses.decisions by.decision
            decided by.among))
      ]

  one_covered : (n : ℕ) → AreCoveredBelow n → (at : Occurrence) (f : Formula)
      → size_of f < suc n → (c : List Occurrence) → All (IsPart (logged v) at f) c
      → IsKept (left_in v.clauses) c → Any Covered c
  one_covered n below at f l c are is =
      let clause = Contains-of_map items_left v.clauses.clauses (filter is.test c) is.left in
      let held =
      one_held (truth_on v) (items_left clause.0)
      (all_satisfied (truth_on v) v.clauses.clauses none clause.0 clause.1) in
      let among =
      (of_kept is.test c held.0 (subst (λ items. Contains items held.0) clause.2 held.1)).0 in
      let part = All-contains (IsPart (logged v) at f) c held.0 are among in
      Any-contains Covered c held.0 among
      (held_covered n below held.0 part.part part.there (omega (arith, l, part.smaller)) held.2)

  covered_step : (n : ℕ) → AreCoveredBelow n → (at : Occurrence) (f : Formula)
      → formula_at (logged v) at ≡ Some f → size_of f < suc n → WasExpanded v at → Covered at
  covered_step n below at f e l (covered o so) = so
  covered_step n below at f e l (parts o ps is each) =
      let are = subst (HasParts (logged v) at f) is (expanded-parts (logged v) at f e) in
      by_expansion at f e (AllOf ps) is (λ x. cc)
      (All-each Covered ps (λ p h.
      let part = All-contains (IsPart (logged v) at f) ps p are h in
      below p part.part part.there (omega (arith, l, part.smaller)) (each p h)))
  covered_step n below at f e l (split o cs is each) =
      let are = subst (HasParts (logged v) at f) is (expanded-parts (logged v) at f e) in
      by_expansion at f e (OneOfEach cs) is (λ x. cc)
      (All-each (Any Covered) cs (λ c h.
      one_covered n below at f l c
      (All-contains (All (IsPart (logged v) at f)) cs c are h) (each c h)))

  covered_below : (n : ℕ) → AreCoveredBelow n
  covered_below zero at f e l was = absurd (omega (arith, l))
  covered_below (suc n) at f e l was = covered_step n (covered_below n) at f e l was

  pub was_covered : (at : Occurrence) (f : Formula) → formula_at (logged v) at ≡ Some f
      → WasExpanded v at → Covered at
  was_covered at f e was = covered_below (suc (size_of f)) at f e (omega arith) was

-- ---- the whole branch

module _ (v : LiveBranch) (complete : ExpansionIsComplete) (once : ConsistentSaysNothingTwice)
    (is : IsBranch v) (none : waiting_of (truth_on v) v.clauses.clauses ≡ []) where
  twice : SaysNothingTwice (literals_on v) (classes_on v)
  twice = once (literals_on v) (classes_on v) is.shared.consistent

  fact_covered : (place : ℕ) → Contains v.book.live place → (f : Formula)
      → slice_get (logged v) place ≡ Some f
      → IsTrue (cover (literals_on v) (classes_on v) f).holds
  fact_covered place live f e =
      let there = formula_at-whole (logged v) place f e in
      so_from (IsCovered (literals_on v) (classes_on v)) (logged v) (whole_at place) f there
      (was_covered v complete twice none is.decided (whole_at place) f there
      (is.facts place live))

  decision_covered : (d : Decision) → Contains v.clauses.decisions d
      → IsSo (IsCovered (literals_on v) (classes_on v)) (logged v) (decided_as d)
  decision_covered d h =
      let there =
      some_there (logged v) d.at
      (All-contains (λ (e : Decision). IsLiveOccurrence v.book e.at) v.clauses.decisions d
      is.decisions.live h).there in
      was_covered v complete twice none is.decided (decided_as d) there.0 there.1
      (All-contains (λ e. WasExpanded v (decided_as e)) v.clauses.decisions d is.decided h)

  pub branch_done : IsDone v
  branch_done = record {
    facts = All-filter_map (slice_get (logged v))
        (λ f. IsTrue (cover (literals_on v) (classes_on v) f).holds) v.book.live fact_covered;
    decisions = All-each (λ d. IsSo (IsCovered (literals_on v) (classes_on v)) (logged v)
        (decided_as d)) v.clauses.decisions decision_covered;
  }
