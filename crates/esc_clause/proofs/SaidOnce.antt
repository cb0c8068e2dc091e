-- Consistent literals and classes say of no formula that it both holds and fails.
use Rattle.std.proofs.Common.{◌≡◌, true, false, not, ◌&&◌, ◌||◌, inl, inr, List, map}
use Rattle.std.proofs.Common.{ap, sym, subst}
use Rattle.std.specs.List.{Contains, list_any}
use denote.Hole.Carrier.{roll}
use Rattle.esc_term.specs.declared.term.Term.{Term}
use Rattle.esc_term.specs.declared.formula.Formula.{Formula}
use Rattle.esc_term.specs.declared.formula.Formula.TheVariants as formula
use Rattle.esc_term.specs.declared.formula.Formula.TheOpen.{Formula-F}
use Rattle.esc_term.specs.declared.formula.Formula.TheViews.{roll-Formula}
use Rattle.esc_term.specs.declared.formula.Formula.TheFolds.{map-Formula, ind-Formula}
use Rattle.esc_term.specs.declared.formula.Item.{Item}
use Rattle.esc_term.specs.declared.formula.Quant.{Quant}
use Rattle.esc_term.proofs.Wholes.{of_member}
use Rattle.esc_cover.specs.Classes.{together}
use Rattle.esc_cover.specs.Cover.{Cover, by_literal, cover, every_two, is_forced_apart}
use Rattle.esc_cover.specs.Cover.{numerals_part, parts}
use Rattle.esc_cover.proofs.CoverLevels as covers
use Rattle.esc_cover.proofs.TestLemmas.{all_at, and_fails_left, and_left, and_right, any_found}
use Rattle.esc_cover.proofs.TestLemmas.{literal_found, not_both, or_cases}
use Rattle.esc_cover.proofs.TwoPlaces.{every_two_fails}
use Rattle.esc_clause.specs.Laws.{ConsistentSaysNothingTwice}

-- what is said does not say both
abbrev IsOnce : Cover → Type 0
IsOnce c = c.holds ≡ true → c.fails ≡ true → ⊥

once_from : (c d : Cover) → c ≡ d → IsOnce d → IsOnce c
once_from c d is once = subst IsOnce (sym is) once

implies_once : (c d : Cover) → IsOnce c → IsOnce d
    → IsOnce (record { holds = c.fails || d.holds; fails = c.holds && d.fails })
implies_once c d left right h e =
    elim (or_cases c.fails d.holds h) [
      | inl fails ↦ left (and_left c.holds d.fails e) fails
      | inr holds ↦ right holds (and_right c.holds d.fails e)
    ]

iff_once : (c d : Cover) → IsOnce c → IsOnce d
    → IsOnce (record {
      holds = (c.holds && d.holds) || (c.fails && d.fails);
      fails = (c.holds && d.fails) || (c.fails && d.holds);
    })
iff_once c d left right h e =
    elim (or_cases (c.holds && d.holds) (c.fails && d.fails) h) [
      | inl both ↦ elim (or_cases (c.holds && d.fails) (c.fails && d.holds) e) [
        | inl first ↦ right (and_right c.holds d.holds both) (and_right c.holds d.fails first)
        | inr second ↦ left (and_left c.holds d.holds both) (and_left c.fails d.holds second)
      ]
      | inr neither ↦ elim (or_cases (c.holds && d.fails) (c.fails && d.holds) e) [
        | inl first ↦ left (and_left c.holds d.fails first) (and_left c.fails d.fails neither)
        | inr second ↦ right (and_right c.fails d.holds second) (and_right c.fails d.fails neither)
      ]
    ]

module _ (literals : List Item) (classes : List (List Term))
    (one_sign : (f : Formula) → Contains literals (record { formula = f; positive = true })
    → Contains literals (record { formula = f; positive = false }) → ⊥) where
  abbrev Once : Formula → Type 0
  Once f = IsOnce (cover literals classes f)

  abbrev Any_quant : Quant → Type 0
  Any_quant q = Unit {0}

  literal_once : (f : Formula) → IsOnce (by_literal literals f)
  literal_once f h e =
      one_sign f (literal_found literals f true h) (literal_found literals f false e)

  together_not_apart : (s t : Term) → together classes s t ≡ true
      → is_forced_apart literals classes s t ≡ false
  together_not_apart s t e =
      and_fails_left (not (together classes s t))
      (list_any (parts classes s t) literals || numerals_part classes s t) (ap not e)

  once_at : (y : Formula-F ((f : Formula) × Once f) ((q : Quant) × Any_quant q))
      → Once (roll-Formula (map-Formula ((f : Formula) × Once f) ((q : Quant) × Any_quant q)
      Formula Quant (λ e. e.0) (λ e. e.0) y))
  unfolding roll-Formula roll
  once_at Formula-F.True = once_from _ _ (covers.cover-True literals classes) (λ h e. cc)
  once_at Formula-F.False = once_from _ _ (covers.cover-False literals classes) (λ h e. cc)
  once_at (Formula-F.And es) =
      let fs : List Formula = map (λ e. e.0) es in
      once_from _ _ (covers.cover-And literals classes fs) (λ h e.
      let found = any_found (λ f. (cover literals classes f).fails) fs e in
      of_member Once es found.0 found.1
      (all_at (λ f. (cover literals classes f).holds) fs found.0 h found.1) found.2)
  once_at (Formula-F.Or es) =
      let fs : List Formula = map (λ e. e.0) es in
      once_from _ _ (covers.cover-Or literals classes fs) (λ h e.
      let found = any_found (λ f. (cover literals classes f).holds) fs h in
      of_member Once es found.0 found.1 found.2
      (all_at (λ f. (cover literals classes f).fails) fs found.0 e found.1))
  once_at (Formula-F.Not f) =
      once_from _ _ (covers.cover-Not literals classes f.0) (λ h e. f.1 e h)
  once_at (Formula-F.Implies f g) =
      once_from _ _ (covers.cover-Implies literals classes f.0 g.0)
      (implies_once (cover literals classes f.0) (cover literals classes g.0) f.1 g.1)
  once_at (Formula-F.Iff f g) =
      once_from _ _ (covers.cover-Iff literals classes f.0 g.0)
      (iff_once (cover literals classes f.0) (cover literals classes g.0) f.1 g.1)
  once_at (Formula-F.Forall q) =
      once_from _ _ (covers.cover-Forall literals classes q.0) (literal_once (formula.Forall q.0))
  once_at (Formula-F.Exists q) =
      once_from _ _ (covers.cover-Exists literals classes q.0) (literal_once (formula.Exists q.0))
  once_at (Formula-F.Eq s t) =
      once_from _ _ (covers.cover-Eq literals classes s t) (λ h e.
      not_both (is_forced_apart literals classes s t) e (together_not_apart s t h))
  once_at (Formula-F.Less s t) =
      once_from _ _ (covers.cover-Less literals classes s t) (literal_once (formula.Less s t))
  once_at (Formula-F.Distinct ts) =
      once_from _ _ (covers.cover-Distinct literals classes ts) (λ h e.
      not_both (every_two (is_forced_apart literals classes) ts) h
      (every_two_fails (together classes) (is_forced_apart literals classes)
      together_not_apart ts e))
  once_at (Formula-F.LabelPos name f) =
      once_from _ _ (covers.cover-LabelPos literals classes name f.0) f.1
  once_at (Formula-F.LabelNeg name f) =
      once_from _ _ (covers.cover-LabelNeg literals classes name f.0) f.1

  said_once : (f : Formula) → Once f
  said_once =
      ind-Formula Once Any_quant (λ x y is. subst (λ z. Once (roll-Formula z)) is (once_at y))
      (λ x y is. tt)

pub consistent_says_nothing_twice : ConsistentSaysNothingTwice
consistent_says_nothing_twice literals classes consistent =
    said_once literals classes consistent.one_sign
