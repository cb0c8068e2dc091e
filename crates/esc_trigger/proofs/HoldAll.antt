-- The triggers of a closed formula are applications that hold each variable of the quantifier, and
-- no other.
use Rattle.std.proofs.Common.{◌≡◌, ℕ, ◌+◌, Bool, true, false, ◌&&◌, nat_lt, if◌then◌else◌, List, []}
use Rattle.std.proofs.Common.{◌∷◌, ◌++◌, refl, sym, subst, ◌∙◌, arith}
use Rattle.std.specs.List.{filter, fold, list_all, list_any}
use Rattle.std.proofs.lemmas.List.Folds.{list_all-append, list_all-map}
use Rattle.std.proofs.lemmas.Bool.{and_parts, and_from}
use Rattle.esc_term.specs.declared.term.Term.{Term}
use Rattle.esc_term.specs.declared.formula.Quant.{Quant}
use Rattle.esc_term.specs.Term.{binds_term, firsts, with_once}
use Rattle.esc_term.specs.Equal.{same_term}
use Rattle.esc_term.specs.Formula.{binds, binds_quant}
use Rattle.esc_term.proofs.FormulaLevels.{binds_quant-at}
use Rattle.esc_term.proofs.Tests.{implied, list_all-flat_map}
use Rattle.esc_cover.proofs.TestLemmas.{all_at, all_from, of_kept}
use Rattle.esc_trigger.specs.Candidates.{candidates, clear_terms, is_application, is_candidate}
use Rattle.esc_trigger.specs.Laws.{is_trigger, TriggersHoldAll}
use Rattle.esc_trigger.specs.Patterns.{is_used, used_patterns}
use Rattle.esc_trigger.specs.Triggers.{bringing_terms, brings_variable, built_trigger}
use Rattle.esc_trigger.specs.Triggers.{full_candidates, inferred_triggers, is_least_of, or_else}
use Rattle.esc_trigger.specs.Triggers.{single_triggers, triggers, with_bringing}
use Rattle.esc_trigger.specs.Variables.{holds_all, variables_of}
use Rattle.esc_trigger.proofs.BoundTerms.{is_within, is_within-bound, clear_within}

-- ---- what is collected step by step

module _ {X : Type 0} (p : X → Bool) where
  fold_passes : (step : List X → X → List X)
      → ((seen : List X) (x : X) → list_all p seen ≡ true → p x ≡ true
      → list_all p (step seen x) ≡ true)
      → (xs seen : List X) → list_all p seen ≡ true → list_all p xs ≡ true
      → list_all p (fold step seen xs) ≡ true
  fold_passes step keeps [] seen before all = before
  fold_passes step keeps (x ∷ xs) seen before all =
      let parts = and_parts (p x) (list_all p xs) all in
      fold_passes step keeps xs (step seen x) (keeps seen x before parts.0) parts.1

  push_passes : (seen : List X) (x : X) → list_all p seen ≡ true → p x ≡ true
      → list_all p (seen ++ x ∷ []) ≡ true
  push_passes seen x before here =
      list_all-append p seen (x ∷ []) ∙ and_from _ _ before (and_from (p x) true here refl)

module _ (p : Term → Bool) where
  once_passes : (seen : List Term) (t : Term) → list_all p seen ≡ true → p t ≡ true
      → list_all p (with_once seen t) ≡ true
  unfolding with_once
  once_passes seen t before here = go (list_any (same_term t) seen)
    where
      go : (b : Bool) → list_all p (if b then seen else seen ++ t ∷ []) ≡ true
      go true = before
      go false = push_passes p seen t before here

  firsts_pass : (ts : List Term) → list_all p ts ≡ true → list_all p (firsts ts) ≡ true
  firsts_pass ts all = fold_passes p with_once once_passes ts [] refl all

  bringing_passes : (count : ℕ) (seen : List Term) (t : Term) → list_all p seen ≡ true → p t ≡ true
      → list_all p (with_bringing count seen t) ≡ true
  bringing_passes count seen t before here = go (brings_variable count seen t)
    where
      go : (b : Bool) → list_all p (if b then seen ++ t ∷ [] else seen) ≡ true
      go true = push_passes p seen t before here
      go false = before

-- ---- one trigger

trigger_from : (count : ℕ) (ts : List Term) → list_all is_application ts ≡ true
    → holds_all count ts ≡ true → list_all (is_within count) ts ≡ true
    → is_trigger count ts ≡ true
unfolding is_within
trigger_from count ts applied full within =
    and_from _ _ (and_from _ _ applied full)
    (list_all-flat_map (λ k. nat_lt k count) variables_of ts ∙ within)

from_zero : (n : ℕ) → 0 + n ≡ n
from_zero n = omega arith

module _ (quant : Quant) (closed : binds_quant quant 0 ≡ true) where
  parts : ((list_all (list_all (binds_term quant.count)) quant.patterns
      && list_all (binds_term quant.count) quant.exempt) ≡ true)
      × (binds quant.body quant.count ≡ true)
  parts =
      and_parts (list_all (list_all (binds_term quant.count)) quant.patterns
      && list_all (binds_term quant.count) quant.exempt) (binds quant.body quant.count)
      (subst (λ n. (list_all (list_all (binds_term n)) quant.patterns
      && list_all (binds_term n) quant.exempt && binds quant.body n) ≡ true) (from_zero quant.count)
      (sym (binds_quant-at 0 quant) ∙ closed))

  patterns_bound : list_all (list_all (binds_term quant.count)) quant.patterns ≡ true
  patterns_bound =
      (and_parts (list_all (list_all (binds_term quant.count)) quant.patterns)
      (list_all (binds_term quant.count) quant.exempt) parts.0).0

  used_are : list_all (is_trigger quant.count) (used_patterns quant) ≡ true
  used_are = all_from (is_trigger quant.count) (used_patterns quant) (λ ts m.
      let kept = of_kept (is_used quant) quant.patterns ts m in
      let tests = and_parts (holds_all quant.count ts) (list_all is_application ts) kept.1 in
      trigger_from quant.count ts tests.1 tests.0
      (implied (binds_term quant.count) (is_within quant.count) (is_within-bound quant.count) ts
      (all_at (list_all (binds_term quant.count)) quant.patterns ts patterns_bound kept.0)))

  -- ---- the candidates

  candidate_applied : (t : Term) → is_candidate quant t ≡ true → is_application t ≡ true
  candidate_applied t e = (and_parts _ _ (and_parts _ _ (and_parts _ _ e).0).0).0

  candidates_applied : list_all is_application (candidates quant) ≡ true
  candidates_applied =
      firsts_pass is_application (filter (is_candidate quant) (clear_terms quant.body 0))
      (all_from is_application _ (λ t m. candidate_applied t
      (of_kept (is_candidate quant) (clear_terms quant.body 0) t m).1))

  candidates_within : list_all (is_within quant.count) (candidates quant) ≡ true
  candidates_within =
      firsts_pass (is_within quant.count) (filter (is_candidate quant) (clear_terms quant.body 0))
      (all_from (is_within quant.count) _ (λ t m.
      all_at (is_within quant.count) (clear_terms quant.body 0) t
      (clear_within quant.count quant.body 0 quant.count (sym (from_zero quant.count)) parts.1)
      (of_kept (is_candidate quant) (clear_terms quant.body 0) t m).0))

  -- ---- what is inferred

  singles_are : list_all (is_trigger quant.count) (single_triggers quant) ≡ true
  singles_are =
      list_all-map (is_trigger quant.count) (λ t. t ∷ [])
      (filter (is_least_of (full_candidates quant)) (full_candidates quant))
      ∙ all_from (λ t. is_trigger quant.count (t ∷ []))
      (filter (is_least_of (full_candidates quant)) (full_candidates quant)) (λ t m.
      let full =
      of_kept (λ u. holds_all quant.count (u ∷ [])) (candidates quant) t
      (of_kept (is_least_of (full_candidates quant)) (full_candidates quant) t m).0 in
      trigger_from quant.count (t ∷ [])
      (and_from _ _ (all_at is_application
      (candidates quant) t candidates_applied full.0) refl) full.1
      (and_from _ _ (all_at (is_within quant.count)
      (candidates quant) t candidates_within full.0) refl))

  built_is : list_all (is_trigger quant.count) (built_trigger quant) ≡ true
  built_is = go (holds_all quant.count (bringing_terms quant)) refl
    where
      go : (b : Bool) → holds_all quant.count (bringing_terms quant) ≡ b
          → list_all (is_trigger quant.count) (if b then bringing_terms quant ∷ [] else []) ≡ true
      go true e =
          and_from _ _
          (trigger_from quant.count (bringing_terms quant)
          (fold_passes is_application (with_bringing quant.count)
          (bringing_passes is_application quant.count) (candidates quant)
          [] refl candidates_applied) e
          (fold_passes (is_within quant.count) (with_bringing quant.count)
          (bringing_passes (is_within quant.count) quant.count) (candidates quant)
          [] refl candidates_within))
          refl
      go false e = refl

  either_are : (xs ys : List (List Term)) → list_all (is_trigger quant.count) xs ≡ true
      → list_all (is_trigger quant.count) ys ≡ true
      → list_all (is_trigger quant.count) (or_else xs ys) ≡ true
  either_are [] ys left right = right
  either_are (x ∷ xs) ys left right = left

  all_are : list_all (is_trigger quant.count) (triggers quant) ≡ true
  unfolding triggers
  all_are =
      either_are (used_patterns quant) (inferred_triggers quant) used_are
      (either_are (single_triggers quant) (built_trigger quant) singles_are built_is)

pub triggers_hold_all : TriggersHoldAll
triggers_hold_all quant closed = all_are quant closed
