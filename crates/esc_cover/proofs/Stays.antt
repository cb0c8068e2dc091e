-- What is said of a formula is still said of it with more literals and coarser classes that agree
-- with each other.
use Rattle.std.proofs.Common.{◌≡◌, Bool, true, false, not, ◌&&◌, ◌||◌, inl, inr, List, ap}
use Rattle.std.specs.List.{Contains, flat_map, list_any}
use Rattle.esc_term.specs.declared.term.Term.{Term}
use Rattle.esc_term.specs.declared.formula.Formula.{Formula, out-Formula}
use Rattle.esc_term.specs.declared.formula.Formula.TheVariants as formula
use Rattle.esc_term.specs.declared.formula.Formula.TheOpen.{Formula-F}
use Rattle.esc_term.specs.declared.formula.Quant.{Quant}
use Rattle.esc_term.specs.declared.formula.Item.{Item}
use Rattle.esc_term.proofs.Members.{Contains-in_flat_map}
use Rattle.esc_cover.specs.Classes.{has, together}
use Rattle.esc_cover.specs.Arithmetic.{InPlay}
use Rattle.esc_cover.specs.Atoms.{atoms_of}
use Rattle.esc_cover.specs.Counterexample.{IsConsistent}
use Rattle.esc_cover.specs.Cover.{are_between, are_two_numerals, by_literal, cover, is_forced_apart, numerals_part, parts, parts_form}
use Rattle.esc_cover.specs.Laws.{CoverStays, GoesFurther}
use Rattle.esc_cover.specs.Least.{IsLeast}
use Rattle.esc_cover.proofs.ClassLemmas.{least_through, least_turned}
use Rattle.esc_cover.proofs.CoverLevels as covers
use Rattle.esc_cover.proofs.CoverOrder.{AreAtomsWithin, IsWithin, cover-parts, goes_by_atoms, within_by}
use Rattle.esc_cover.proofs.ForcedApart.{HoldsApart, forced_apart}
use Rattle.esc_cover.proofs.TestLemmas.{and_both, and_left, and_right, any_at, any_found, both_kept, either_kept, has-found, literal_at, literal_found, or_cases}
use Rattle.esc_cover.proofs.TwoPlaces.{every_two_kept, some_two_kept}

abbrev members_of : List (List Term) → List Term
members_of = flat_map (λ (members : List Term). members)

of_members : (classes : List (List Term)) (s t : Term) → together classes s t ≡ true
    → Contains (members_of classes) t
of_members classes s t e =
    let found = any_found (λ members. has members s && has members t) classes e in
    Contains-in_flat_map (λ (members : List Term). members) classes found.0 t found.1
    (has-found found.0 t (and_right (has found.0 s) (has found.0 t) found.2))

between_members : (classes : List (List Term)) (s t u v : Term) → are_between classes s t u v ≡ true
    → Contains (members_of classes) u × Contains (members_of classes) v
between_members classes s t u v e =
    elim (or_cases (together classes s u && together classes t v) (together classes s v
    && together classes t u) e) [
      | inl one ↦ (
        of_members classes s u (and_left _ _ one),
        of_members classes t v
            (and_right _ _ one),
      )
      | inr other ↦ (
        of_members classes t u (and_right _ _ other),
        of_members classes s v
            (and_left _ _ other),
      )
    ]

module _ (literals more : List Item) (play : InPlay) (classes coarser : List (List Term))
    (on : GoesFurther literals classes more coarser) (least : IsLeast more play coarser)
    (consistent : IsConsistent more coarser) where
  -- ---- classes that are forced apart

  coarser-apart : HoldsApart literals (together coarser)
  coarser-apart = record {
    unequal = λ s t h. consistent.unequal s t (on.kept _ h);
    distinct = λ ts h. consistent.distinct ts (on.kept _ h);
    numerals = consistent.numerals;
  }

  not_joined : (s t : Term) → is_forced_apart literals classes s t ≡ true
      → together coarser s t ≡ false
  not_joined =
      forced_apart literals classes (together coarser) coarser-apart
      (least_turned more play coarser least) (least_through more play coarser least) on.joined

  between_kept : (s t u v : Term) → are_between classes s t u v ≡ true
      → are_between coarser s t u v ≡ true
  between_kept s t u v =
      either_kept _ _ (together coarser s u && together coarser t v) (together coarser s v
      && together coarser t u)
      (both_kept (together classes s u) (together classes t v) _ _ (on.joined s u) (on.joined t v))
      (both_kept (together classes s v) (together classes t u) _ _ (on.joined s v) (on.joined t u))

  parts_form_kept : (s t : Term) (form : Formula-F Formula Quant) (positive : Bool)
      → parts_form classes s t form positive ≡ true → parts_form coarser s t form positive ≡ true
  parts_form_kept s t (Formula-F.Eq u v) false e = between_kept s t u v e
  parts_form_kept s t (Formula-F.Distinct us) true e = some_two_kept (are_between classes s t)
      (are_between coarser s t) (between_kept s t) us e
  parts_form_kept s t form positive e = cc

  literals_kept : (s t : Term) → list_any (parts classes s t) literals ≡ true
      → list_any (parts coarser s t) more ≡ true
  literals_kept s t e =
      let found = any_found (parts classes s t) literals e in
      any_at (parts coarser s t) more found.0 (on.kept found.0 found.1)
      (parts_form_kept s t (out-Formula found.0.formula) found.0.positive found.2)

  numerals_kept : (s t : Term) → numerals_part classes s t ≡ true → numerals_part coarser s t ≡ true
  numerals_kept s t e =
      let first = any_found _ (members_of classes) e in
      let second = any_found _ (members_of classes) first.2 in
      let u : Term = first.0 in
      let v : Term = second.0 in
      let between : are_between coarser s t u v ≡ true = between_kept s t u v
      (and_right _ _ second.2) in
      let within = between_members coarser s t u v between in
      any_at (λ w. list_any (λ x. are_two_numerals w x && are_between coarser s t w x)
      (members_of coarser)) (members_of coarser) u within.0
      (any_at (λ x. are_two_numerals u x && are_between coarser s t u x) (members_of coarser) v
      within.1
      (and_both (are_two_numerals u v) (are_between coarser s t u v) (and_left _ _ second.2)
      between))

  apart_kept : (s t : Term) → is_forced_apart literals classes s t ≡ true
      → is_forced_apart more coarser s t ≡ true
  apart_kept s t e =
      and_both (not (together coarser s t)) (list_any (parts coarser s t) more
      || numerals_part coarser s t) (ap not (not_joined s t e))
      (either_kept (list_any (parts classes s t) literals) (numerals_part classes s t)
      (list_any (parts coarser s t) more) (numerals_part coarser s t)
      (literals_kept s t) (numerals_kept s t) (and_right (not (together classes s t)) _ e))

  -- ---- formulas

  literal_kept : (f : Formula) → IsWithin (by_literal literals f) (by_literal more f)
  literal_kept f = record {
    holds = λ h. literal_at more f true (on.kept _ (literal_found literals f true h));
    fails = λ h. literal_at more f false (on.kept _ (literal_found literals f false h));
  }

  atoms_kept : (among : List Formula) → AreAtomsWithin literals classes (cover more coarser)
      (cover-parts more coarser) among
  atoms_kept among = record {
    of_Forall = λ q h. within_by _ _ _ _ (covers.cover-Forall literals classes q)
        (covers.cover-Forall more coarser q) (literal_kept (formula.Forall q));
    of_Exists = λ q h. within_by _ _ _ _ (covers.cover-Exists literals classes q)
        (covers.cover-Exists more coarser q) (literal_kept (formula.Exists q));
    of_Eq = λ s t h. within_by _ _ _ _ (covers.cover-Eq literals classes s t)
        (covers.cover-Eq more coarser s t) (record
        { holds = on.joined s t; fails = apart_kept s t });
    of_Less = λ s t h. within_by _ _ _ _ (covers.cover-Less literals classes s t)
        (covers.cover-Less more coarser s t) (literal_kept (formula.Less s t));
    of_Distinct = λ ts h.
        within_by _ _ _ _ (covers.cover-Distinct literals classes ts)
        (covers.cover-Distinct more coarser ts) (record {
          holds = every_two_kept (is_forced_apart literals classes) (is_forced_apart more coarser)
              apart_kept ts;
          fails = some_two_kept (together classes) (together coarser) on.joined ts;
        });
  }

  kept_within : (f : Formula) → IsWithin (cover literals classes f) (cover more coarser f)
  kept_within f = goes_by_atoms literals classes (cover more coarser) (cover-parts more coarser) f
      (atoms_kept (atoms_of f))

pub cover_stays : CoverStays
cover_stays literals more play classes coarser on least consistent f =
    let within = kept_within literals more play classes coarser on least consistent f in
    record { holds = within.holds; fails = within.fails }
