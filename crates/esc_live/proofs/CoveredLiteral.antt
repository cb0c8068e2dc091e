-- Literals and their least classes say of each literal that it is so.
use Rattle.std.proofs.Common.{◌≡◌, ℕ, ◌<◌, Bool, true, false, not, ◌&&◌, ◌||◌, List, [], ◌∷◌, ap}
use Rattle.std.proofs.Common.{length, get_or, sym, subst, ◌∙◌, arith}
use Rattle.std.specs.Prelude.{IsTrue}
use Rattle.std.specs.List.{All, Contains, list_any}
use Rattle.std.proofs.lemmas.List.Elements.{All-head, All-tail}
use denote.Hole.Carrier.{roll}
use Rattle.esc_term.specs.declared.term.Term.{Term}
use Rattle.esc_term.specs.declared.formula.Formula.{Formula, out-Formula}
use Rattle.esc_term.specs.declared.formula.Formula.TheVariants as formula
use Rattle.esc_term.specs.declared.formula.Formula.TheOpen.{Formula-F}
use Rattle.esc_term.specs.declared.formula.Formula.TheViews.{roll-Formula, roll-out-Formula}
use Rattle.esc_term.specs.declared.formula.Quant.{Quant}
use Rattle.esc_term.specs.declared.formula.Item.{Item}
use Rattle.esc_term.specs.Term.{truth_term}
use Rattle.esc_cover.specs.Arithmetic.{InPlay}
use Rattle.esc_cover.specs.Classes.{together}
use Rattle.esc_cover.specs.Counterexample.{IsConsistent, is_literal_form}
use Rattle.esc_cover.specs.Cover.{Cover, are_between, is_forced_apart, numerals_part, parts}
use Rattle.esc_cover.specs.Cover.{parts_form}
use Rattle.esc_cover.specs.Least.{IsLeast}
use Rattle.esc_cover.proofs.ClassLemmas.{together_by}
use Rattle.esc_cover.proofs.CoverLevels as covers
use Rattle.esc_cover.proofs.TestLemmas.{and_both, any_at, literal_at, not_true, or_left}
use Rattle.esc_clause.specs.Laws.{IsCovered}
use Rattle.esc_clause.specs.Occurrences.{signed}
use Rattle.esc_node_terms.proofs.LiteralForms.{out-Distinct, out-Eq}
use Rattle.esc_node_terms.proofs.TwoPlaces.{every_two_at, every_two_from, some_two_at}
use Rattle.esc_live.specs.StandingInside.{item_sides, sides_form}

module _ (literals : List Item) (play : InPlay) (classes : List (List Term))
    (least : IsLeast literals play classes) (consistent : IsConsistent literals classes) where
  joined : (s t : Term) → Contains play.terms s → Contains play.terms t → least.same s t ≡ true
      → together classes s t ≡ true
  joined s t hs ht e = subst (λ cs. together cs s t ≡ true) (sym least.shown)
      (together_by least.same least.congruent.equivalence play.terms s t hs ht e)

  itself : (t : Term) → Contains play.terms t → together classes t t ≡ true
  itself t h = joined t t h h (least.congruent.equivalence.refl t)

  -- a literal that has a side in each of two classes forces them apart
  forced_by : (s t : Term) (item : Item) → Contains literals item → parts classes s t item ≡ true
      → together classes s t ≡ false → is_forced_apart literals classes s t ≡ true
  forced_by s t item h parted apart =
      and_both (not (together classes s t))
      (list_any (parts classes s t) literals || numerals_part classes s t) (ap not apart)
      (or_left (list_any (parts classes s t) literals) (numerals_part classes s t)
      (any_at (parts classes s t) literals item h parted))

  between : (s t : Term) → Contains play.terms s → Contains play.terms t
      → are_between classes s t s t ≡ true
  between s t hs ht =
      or_left (together classes s s && together classes t t)
      (together classes s t && together classes t s)
      (and_both (together classes s s) (together classes t t) (itself s hs) (itself t ht))

  covered_distinct : (ts : List Term)
      → Contains literals (record { formula = formula.Distinct ts; positive = true })
      → All (Contains play.terms) ts
      → IsCovered literals classes (record { formula = formula.Distinct ts; positive = true })
  covered_distinct ts literal in_play =
      ap (λ (c : Cover). c.holds) (covers.cover-Distinct literals classes ts)
      ∙ every_two_from (is_forced_apart literals classes) ts truth_term
      (λ i j before l.
      let il : i < length ts = omega (arith, before, l) in
      forced_by (get_or ts i truth_term) (get_or ts j truth_term)
      (record { formula = formula.Distinct ts; positive = true }) literal
      (ap (λ form. parts_form classes (get_or ts i truth_term) (get_or ts j truth_term) form true)
      (out-Distinct ts)
      ∙ some_two_at (are_between classes (get_or ts i truth_term) (get_or ts j truth_term))
      ts truth_term i j before l
      (between (get_or ts i truth_term) (get_or ts j truth_term) (in_play i truth_term il)
      (in_play j truth_term l)))
      (not_true (together classes (get_or ts i truth_term) (get_or ts j truth_term))
      (every_two_at (λ s t. not (together classes s t)) ts truth_term
      (consistent.distinct ts literal) i j before l)))

  covered_form : (form : Formula-F Formula Quant) (positive : Bool)
      → is_literal_form form positive ≡ true
      → Contains literals (signed positive (roll-Formula form))
      → All (Contains play.terms) (sides_form form)
      → IsCovered literals classes (signed positive (roll-Formula form))
  unfolding roll-Formula roll
  covered_form (Formula-F.Eq s t) true is h sides =
      let hs = All-head (Contains play.terms) s (t ∷ []) sides in
      let ht = All-head (Contains play.terms) t []
      (All-tail (Contains play.terms) s (t ∷ []) sides) in
      ap (λ (c : Cover). c.holds) (covers.cover-Eq literals classes s t)
      ∙ joined s t hs ht (least.congruent.equations s t h)
  covered_form (Formula-F.Eq s t) false is h sides =
      let hs = All-head (Contains play.terms) s (t ∷ []) sides in
      let ht = All-head (Contains play.terms) t []
      (All-tail (Contains play.terms) s (t ∷ []) sides) in
      ap (λ (c : Cover). c.fails) (covers.cover-Eq literals classes s t)
      ∙ forced_by s t (record { formula = formula.Eq s t; positive = false }) h
      (ap (λ form. parts_form classes s t form false) (out-Eq s t) ∙ between s t hs ht)
      (consistent.unequal s t h)
  covered_form (Formula-F.Distinct ts) true is h sides = covered_distinct ts h sides
  covered_form (Formula-F.Distinct ts) false is h sides = absurd (cc)
  covered_form (Formula-F.Less s t) true is h sides =
      ap (λ (c : Cover). c.holds) (covers.cover-Less literals classes s t)
      ∙ literal_at literals (formula.Less s t) true h
  covered_form (Formula-F.Less s t) false is h sides =
      ap (λ (c : Cover). c.fails) (covers.cover-Less literals classes s t)
      ∙ literal_at literals (formula.Less s t) false h
  covered_form (Formula-F.Forall q) true is h sides =
      ap (λ (c : Cover). c.holds) (covers.cover-Forall literals classes q)
      ∙ literal_at literals (formula.Forall q) true h
  covered_form (Formula-F.Forall q) false is h sides =
      ap (λ (c : Cover). c.fails) (covers.cover-Forall literals classes q)
      ∙ literal_at literals (formula.Forall q) false h
  covered_form (Formula-F.Exists q) true is h sides =
      ap (λ (c : Cover). c.holds) (covers.cover-Exists literals classes q)
      ∙ literal_at literals (formula.Exists q) true h
  covered_form (Formula-F.Exists q) false is h sides =
      ap (λ (c : Cover). c.fails) (covers.cover-Exists literals classes q)
      ∙ literal_at literals (formula.Exists q) false h
  covered_form Formula-F.True positive is h sides = absurd (cc)
  covered_form Formula-F.False positive is h sides = absurd (cc)
  covered_form (Formula-F.And ps) positive is h sides = absurd (cc)
  covered_form (Formula-F.Or ps) positive is h sides = absurd (cc)
  covered_form (Formula-F.Not p) positive is h sides = absurd (cc)
  covered_form (Formula-F.Implies p q) positive is h sides = absurd (cc)
  covered_form (Formula-F.Iff p q) positive is h sides = absurd (cc)
  covered_form (Formula-F.LabelPos name p) positive is h sides = absurd (cc)
  covered_form (Formula-F.LabelNeg name p) positive is h sides = absurd (cc)

  pub literal_covered : (item : Item)
      → is_literal_form (out-Formula item.formula) item.positive ≡ true
      → Contains literals item → All (Contains play.terms) (item_sides item)
      → IsCovered literals classes item
  literal_covered item is h sides =
      subst (λ f. IsCovered literals classes (signed item.positive f))
      (roll-out-Formula item.formula)
      (covered_form (out-Formula item.formula) item.positive is
      (subst (λ f. Contains literals (signed item.positive f))
      (sym (roll-out-Formula item.formula)) h) sides)
