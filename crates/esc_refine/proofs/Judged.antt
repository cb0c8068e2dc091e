-- What literals and classes say of an occurrence, in models and as covered.
use Rattle.std.proofs.Common.{◌≡◌, Bool, true, false, not, Option, Some, None, refl}
use Rattle.std.proofs.Common.{sym, subst, ◌∙◌, if◌then◌else◌, true≢false}
use Rattle.std.specs.Option.{IsSomeAnd, option_map_or}
use Rattle.esc_term.specs.declared.formula.Formula.{Formula}
use Rattle.esc_term.specs.declared.formula.Item.{Item}
use Rattle.esc_term.specs.Interpretation.{truth}
use Rattle.esc_term.specs.Model.{Model, read_in}
use Rattle.esc_cover.specs.Cover.{Cover, cover}
use Rattle.esc_cover.specs.Laws.{HoldsIn, IsSaidIn}
use Rattle.esc_clause.specs.Laws.{IsCovered, IsSo, is_covered}
use Rattle.esc_clause.specs.Occurrences.{item_at}
use Rattle.esc_clause.specs.declared.occurrence.Occurrence.{Occurrence}
use Rattle.esc_clause.specs.declared.truth.Truth.{Truth}
use Rattle.esc_clause.specs.declared.truth.Truth.TheVariants.{Yes, No, Open}
use Rattle.esc_book.specs.Book.{is_live}
use Rattle.esc_book.specs.Judging.{contrary_item, item_truth, truth_at}
use Rattle.esc_live.specs.View.{classes_on, judge_on, literals_on, logged}
use Rattle.esc_live.specs.declared.branch.LiveBranch.{LiveBranch}

covered_if : (a b : Bool) → (if a then Yes else (if b then No else Open)) ≡ Yes → a ≡ true
covered_if true b e = refl
covered_if false true e = cc
covered_if false false e = cc

contrary_if : (a b : Bool) → (if a then Yes else (if b then No else Open)) ≡ No → b ≡ true
contrary_if true b e = cc
contrary_if false true e = refl
contrary_if false false e = cc

told_live : (live : Bool) (t told : Truth) → (told ≡ Open → ⊥)
    → (if live then t else Open) ≡ told → t ≡ told
told_live true t told some e = e
told_live false t told some e = absurd (some (sym e))

-- the item there is told of
record IsToldOf (f : Item → Truth) (o : Option Item) (told : Truth) : Type 0 where
  item : Item
  there : o ≡ Some item
  is : f item ≡ told

told_of : (f : Item → Truth) (o : Option Item) (told : Truth) → (told ≡ Open → ⊥)
    → option_map_or f o Open ≡ told → IsToldOf f o told
told_of f None told some e = absurd (some (sym e))
told_of f (Some item) told some e = record { item = item; there = refl; is = e }

item_on : (v : LiveBranch) (at : Occurrence) (told : Truth) → (told ≡ Open → ⊥)
    → judge_on v at ≡ told
    → IsToldOf (item_truth (literals_on v) (classes_on v)) (item_at (logged v) at) told
item_on v at told some e =
    told_of (item_truth (literals_on v) (classes_on v)) (item_at (logged v) at) told some
    (told_live (is_live v.book at.fact)
    (truth_at (logged v) (literals_on v) (classes_on v) at) told some e)

-- what the judge says to hold is covered
pub judged_covered : (v : LiveBranch) (at : Occurrence) → judge_on v at ≡ Yes
    → IsSo (IsCovered (literals_on v) (classes_on v)) (logged v) at
judged_covered v at e =
    let told = item_on v at Yes (λ x. cc) e in
    subst (λ o. IsSomeAnd o (IsCovered (literals_on v) (classes_on v))) (sym told.there)
    (covered_if (is_covered (literals_on v) (classes_on v) told.item)
    (is_covered (literals_on v) (classes_on v) (contrary_item told.item)) told.is)

contrary_not : (positive : Bool) (c : Cover) (t : Bool)
    → (if not positive then c.holds else c.fails) ≡ true → (c.holds ≡ true → t ≡ true)
    → (c.fails ≡ true → t ≡ false) → t ≡ positive → ⊥
contrary_not true c t e holds fails is = true≢false (sym is ∙ fails e)
contrary_not false c t e holds fails is = true≢false (sym (holds e) ∙ is)

-- what the judge says to fail is not so in a model in which what is said is so
pub judged_not : (v : LiveBranch) (M : Model)
    → ((f : Formula) → IsSaidIn M (literals_on v) (classes_on v) f) → (at : Occurrence)
    → judge_on v at ≡ No → IsSo (HoldsIn M) (logged v) at → ⊥
judged_not v M said at e so =
    let told = item_on v at No (λ x. cc) e in
    let f = told.item.formula in
    contrary_not told.item.positive (cover (literals_on v) (classes_on v) f) (truth (read_in M) f)
    (contrary_if (is_covered (literals_on v) (classes_on v) told.item)
    (is_covered (literals_on v) (classes_on v) (contrary_item told.item)) told.is)
    (said f).holds (said f).fails
    (subst (λ o. IsSomeAnd o (HoldsIn M)) told.there so)
