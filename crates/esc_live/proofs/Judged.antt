-- What literals and classes of a branch say of an occurrence, and what follows of it.
use Rattle.std.proofs.Common.{◌≡◌, ◌==◌, ℕ, Bool, true, false, not, List, [], ◌∷◌, Option, Some}
use Rattle.std.proofs.Common.{None, refl, ap, sym, subst, ◌∙◌, if◌then◌else◌}
use Rattle.std.specs.Prelude.{IsTrue}
use Rattle.std.specs.List.{All, Contains, list_any}
use Rattle.std.specs.Option.{IsSomeAnd, option_map_or}
use Rattle.std.proofs.lemmas.Bool.{eq-eqb}
use Rattle.std.proofs.lemmas.List.Elements.{All-cons, All-head, All-nil}
use Rattle.esc_term.specs.declared.term.Term.{Term}
use Rattle.esc_term.specs.declared.formula.Formula.{Formula}
use Rattle.esc_term.specs.declared.formula.Item.{Item}
use Rattle.esc_term.specs.Interpretation.{truth}
use Rattle.esc_term.specs.Model.{Model, read_in}
use Rattle.esc_cover.specs.Arithmetic.{play_of}
use Rattle.esc_cover.specs.Cover.{cover}
use Rattle.esc_cover.specs.Laws.{HoldsIn}
use Rattle.esc_cover.specs.Least.{IsLeast}
use Rattle.esc_cover.proofs.TestLemmas.{any_at, not_true}
use Rattle.esc_clause.specs.Laws.{IsCovered, IsSo, is_covered}
use Rattle.esc_clause.specs.Occurrences.{formula_at, item_at}
use Rattle.esc_clause.specs.declared.occurrence.Occurrence.{Occurrence}
use Rattle.esc_clause.specs.declared.truth.Truth.{Truth}
use Rattle.esc_clause.specs.declared.truth.Truth.TheVariants.{Yes, No, Open}
use Rattle.esc_book.specs.Book.{IsLiveOccurrence, is_live}
use Rattle.esc_book.specs.Judging.{contrary_item, item_truth, truth_at}
use Rattle.esc_sharing.specs.Shared.{literals_in, play_in}
use Rattle.esc_sharing.proofs.BesideQuantified.{least_stays}
use Rattle.esc_sharing.proofs.SaidInModels.{cover_is_sound}
use Rattle.esc_outcome.specs.JamLaws.{shared_in}
use Rattle.esc_live.specs.Expanded.IsExpanded.{covered}
use Rattle.esc_live.specs.Promises.{IsSharedOn, IsSoundIn, WasExpanded}
use Rattle.esc_live.specs.StandingInside.{AreSoIn, IsStanding, Reaches}
use Rattle.esc_live.specs.View.{classes_on, judge_on, literals_on, live_on, logged}
use Rattle.esc_live.specs.declared.branch.LiveBranch.{LiveBranch}

-- ---- of one item

module _ (literals : List Item) (classes : List (List Term)) where
  pub truth_yes : (item : Item) → item_truth literals classes item ≡ Yes
      → IsCovered literals classes item
  truth_yes item e = go (is_covered literals classes item)
      (is_covered literals classes (contrary_item item)) e
    where
      go : (a b : Bool) → (if a then Yes else (if b then No else Open)) ≡ Yes → a ≡ true
      go true b h = refl
      go false true h = absurd (cc)
      go false false h = absurd (cc)

  pub truth_no : (item : Item) → item_truth literals classes item ≡ No
      → IsCovered literals classes (contrary_item item)
  truth_no item e = go (is_covered literals classes item)
      (is_covered literals classes (contrary_item item)) e
    where
      go : (a b : Bool) → (if a then Yes else (if b then No else Open)) ≡ No → b ≡ true
      go true b h = absurd (cc)
      go false true h = refl
      go false false h = absurd (cc)

  pub truth_open : (item : Item) → item_truth literals classes item ≡ Open
      → (IsCovered literals classes (contrary_item item) → ⊥)
  truth_open item e = go (is_covered literals classes item)
      (is_covered literals classes (contrary_item item)) e
    where
      go : (a b : Bool) → (if a then Yes else (if b then No else Open)) ≡ Open → b ≡ true → ⊥
      go true b h k = cc
      go false true h k = cc
      go false false h k = cc

some_yes : (P : Item → Type 0) (judge : Item → Truth) (o : Option Item)
    → ((item : Item) → judge item ≡ Yes → P item) → option_map_or judge o Open ≡ Yes → IsSomeAnd o P
some_yes P judge (Some item) each e = each item e
some_yes P judge None each e = absurd (cc)

some_no : (P : Item → Type 0) (judge : Item → Truth) (o : Option Item)
    → ((item : Item) → judge item ≡ No → P item) → option_map_or judge o Open ≡ No → IsSomeAnd o P
some_no P judge (Some item) each e = each item e
some_no P judge None each e = absurd (cc)

some_both : (P Q : Item → Type 0) → ((item : Item) → P item → Q item → ⊥) → (o : Option Item)
    → IsSomeAnd o P → IsSomeAnd o Q → ⊥
some_both P Q none (Some item) h k = none item h k
some_both P Q none None h k = h

module _ (v : LiveBranch) (shared : IsSharedOn v) where
  pub least_on : IsLeast (literals_on v) (play_of (live_on v)) (classes_on v)
  least_on = least_stays (literals_in (shared_in v.sharing)) (literals_on v)
      (play_in (shared_in v.sharing)) (play_of (live_on v)) (classes_on v) shared.asserted
      shared.play shared.shared.least

  -- ---- in a model

  module _ (M : Model) (holds : All (HoldsIn M) (literals_on v)) where
    pub covered_sound : (item : Item) → IsCovered (literals_on v) (classes_on v) item
        → HoldsIn M item
    covered_sound item =
        let said = cover_is_sound (play_of (live_on v)) (literals_on v) (classes_on v) least_on M
        holds item.formula in
        elim item.positive as (λ p. IsTrue (if p
        then (cover (literals_on v) (classes_on v) item.formula).holds
        else (cover (literals_on v) (classes_on v) item.formula).fails)
        → truth (read_in M) item.formula ≡ p) [ true ↦ said.holds | false ↦ said.fails ]

    contrary_fails : (item : Item) → IsCovered (literals_on v) (classes_on v) (contrary_item item)
        → HoldsIn M item → ⊥
    contrary_fails item h = go (truth (read_in M) item.formula) item.positive
        (covered_sound (contrary_item item) h)
      where
        go : (b p : Bool) → b ≡ not p → b ≡ p → ⊥
        go b true e f = cc
        go b false e f = cc

  -- ---- an occurrence

  module _ (at : Occurrence) (live : IsLiveOccurrence v.book at) where
    same_place : (n : ℕ) → (n == n) ≡ true
    same_place n = eq-eqb n n refl

    pub is_live_at : is_live v.book at.fact ≡ true
    is_live_at = any_at (λ p. p == at.fact) v.book.live at.fact live.live (same_place at.fact)

    pub judged_at : judge_on v at
        ≡ option_map_or (item_truth (literals_on v) (classes_on v)) (item_at (logged v) at) Open
    judged_at = ap (λ b. if b then truth_at (logged v) (literals_on v) (classes_on v) at else Open)
        is_live_at

    pub yes_covered : judge_on v at ≡ Yes
        → IsSo (IsCovered (literals_on v) (classes_on v)) (logged v) at
    yes_covered e = some_yes (IsCovered (literals_on v) (classes_on v))
        (item_truth (literals_on v) (classes_on v)) (item_at (logged v) at)
        (truth_yes (literals_on v) (classes_on v)) (sym judged_at ∙ e)

    no_covered : judge_on v at ≡ No
        → IsSo (λ item. IsCovered (literals_on v) (classes_on v) (contrary_item item)) (logged v) at
    no_covered e = some_no (λ item. IsCovered (literals_on v) (classes_on v) (contrary_item item))
        (item_truth (literals_on v) (classes_on v)) (item_at (logged v) at)
        (truth_no (literals_on v) (classes_on v)) (sym judged_at ∙ e)

    pub closed_by_no : judge_on v at ≡ No → (M : Model) → AreSoIn M v (at ∷ []) → ⊥
    closed_by_no e M so =
        some_both (λ item. IsCovered (literals_on v) (classes_on v) (contrary_item item))
        (HoldsIn M) (contrary_fails M so.branch.literals) (item_at (logged v) at)
        (no_covered e) (All-head (IsSo (HoldsIn M) (logged v)) at [] so.each)

    pub open_contrary : (item : Item) → item_at (logged v) at ≡ Some item → judge_on v at ≡ Open
        → IsCovered (literals_on v) (classes_on v) (contrary_item item) → ⊥
    open_contrary item there e =
        truth_open (literals_on v) (classes_on v) item
        (sym (judged_at ∙ ap (λ o. option_map_or (item_truth (literals_on v) (classes_on v)) o Open)
        there) ∙ e)

pub reaches_yes : (v : LiveBranch) → IsStanding v → (at : Occurrence)
    → IsLiveOccurrence v.book at → judge_on v at ≡ Yes → Reaches v v (at ∷ [])
reaches_yes v standing at live e = record {
  standing = standing;
  expanded = All-cons (WasExpanded v) at []
      (covered at (yes_covered v standing.shared at live e)) (All-nil (WasExpanded v));
  stays = λ other h. h;
  sound = λ M so. so.branch;
}
