-- What literals and their least classes say is so in each model of the literals.
use Rattle.std.proofs.Common.{◌≡◌, Bool, true, false, not, List, [], ◌∷◌, map, refl, ap, sym, ◌∙◌}
use Rattle.std.specs.Prelude.{IsTrue}
use Rattle.std.specs.Cmp.{IsEquivalence}
use Rattle.std.specs.List.{All, AllZip, Contains}
use Rattle.std.specs.Ordering.{int_eq}
use Rattle.std.proofs.lemmas.Bool.Decides.{Decides-int_eq}
use Rattle.std.proofs.lemmas.Cmp.{int_eq_equiv}
use Rattle.std.proofs.lemmas.List.Elements.{All-contains}
use Rattle.esc_term.specs.declared.term.Term.{Term}
use Rattle.esc_term.specs.declared.term.Term.TheVariants.{App, Num}
use Rattle.esc_term.specs.declared.formula.Formula.{Formula}
use Rattle.esc_term.specs.declared.formula.Formula.TheVariants as formula
use Rattle.esc_term.specs.declared.formula.Item.{Item}
use Rattle.esc_term.specs.Interpretation.{Interpretation, truth}
use Rattle.esc_term.specs.Model.{Model, applied, read_in, value_in}
use Rattle.esc_term.proofs.Members.{Contains-none}
use Rattle.esc_term.proofs.Models.{value_in-App, value_in-Num}
use Rattle.esc_term.proofs.TruthLevels as levels
use Rattle.esc_cover.specs.Classes.{together}
use Rattle.esc_cover.specs.Arithmetic.{without_numbers}
use Rattle.esc_cover.specs.Atoms.{atoms_of}
use Rattle.esc_cover.specs.Cover.{by_literal, cover, is_forced_apart}
use Rattle.esc_cover.specs.Laws.{CoverIsSound, HoldsIn, TogetherHasOneValue}
use Rattle.esc_cover.specs.Least.{IsCongruent, IsLeast}
use Rattle.esc_cover.proofs.ClassLemmas.{of_least, together_through, together_turned}
use Rattle.esc_cover.proofs.CoverLevels as covers
use Rattle.esc_cover.proofs.CoverOrder.{AreAtomsWithin, IsWithin, goes_by_atoms}
use Rattle.esc_cover.proofs.ForcedApart.{HoldsApart, forced_apart}
use Rattle.esc_cover.proofs.TestLemmas.{literal_found, not_true}
use Rattle.esc_cover.proofs.TruthCover.{distinct_within, eq_within, truth_cover, truth_cover-parts}
use Rattle.esc_cover.proofs.TwoPlaces.{all_apart-every_two}

module _ (literals : List Item) (M : Model) (model : All (HoldsIn M) literals) where
  abbrev reading : Interpretation
  reading = read_in M

  holds_at : (f : Formula) (positive : Bool) → Contains literals
      (record { formula = f; positive = positive }) → truth reading f ≡ positive
  holds_at f positive h = All-contains (HoldsIn M) literals
      (record { formula = f; positive = positive }) model h

  -- ---- equal values

  abbrev equal_in : Term → Term → Bool
  equal_in s t = int_eq (value_in M s) (value_in M t)

  equal_in-equivalence : IsEquivalence equal_in
  equal_in-equivalence = record {
    refl = λ t. int_eq_equiv.refl (value_in M t);
    symm = λ s t. int_eq_equiv.symm (value_in M s) (value_in M t);
    congr = λ s t u. int_eq_equiv.congr (value_in M s) (value_in M t) (value_in M u);
  }

  equal_values : (s t : Term) → equal_in s t ≡ true → value_in M s ≡ value_in M t
  equal_values s t e = (Decides-int_eq (value_in M s) (value_in M t)).0 e

  equal_args : (ss ts : List Term) → AllZip (λ s t. IsTrue (equal_in s t)) ss ts
      → map (value_in M) ss ≡ map (value_in M) ts
  equal_args [] [] zip = refl
  equal_args [] (t ∷ ts) zip = absurd zip
  equal_args (s ∷ ss) [] zip = absurd zip
  equal_args (s ∷ ss) (t ∷ ts) zip = ap (λ n. n ∷ map (value_in M) ss) (equal_values s t zip.0)
      ∙ ap (λ ns. value_in M t ∷ ns) (equal_args ss ts zip.1)

  equal_in-congruent : (terms : List Term) → IsCongruent equal_in (without_numbers terms) literals
  equal_in-congruent terms = record {
    equivalence = equal_in-equivalence;
    congruence = λ head ss ts h k zip.
        (Decides-int_eq (value_in M (App head ss)) (value_in M (App head ts))).1
        (value_in-App M head ss ∙ ap (applied M head) (equal_args ss ts zip)
        ∙ sym (value_in-App M head ts));
    equations = λ s t h. sym (levels.truth-Eq reading s t) ∙ holds_at (formula.Eq s t) true h;
    values = λ s t h. absurd (Contains-none s h);
  }

  equal_in-apart : HoldsApart literals equal_in
  equal_in-apart = record {
    unequal = λ s t h. sym (levels.truth-Eq reading s t) ∙ holds_at (formula.Eq s t) false h;
    distinct = λ ts h. sym (all_apart-every_two (value_in M) ts)
        ∙ sym (levels.truth-Distinct reading ts) ∙ holds_at (formula.Distinct ts) true h;
    numerals = λ m n e. sym (value_in-Num M m) ∙ equal_values (Num m) (Num n) e ∙ value_in-Num M n;
  }

  -- ---- least classes

  module _ (terms : List Term) (classes : List (List Term))
      (least : IsLeast literals (without_numbers terms) classes) where
    together_equal : (s t : Term) → together classes s t ≡ true → equal_in s t ≡ true
    together_equal s t e =
        let found = of_least literals (without_numbers terms) classes least s t e in
        least.finest equal_in (equal_in-congruent terms) s t found.0 found.1 found.2

    apart_unequal : (s t : Term) → is_forced_apart literals classes s t ≡ true
        → equal_in s t ≡ false
    apart_unequal =
        forced_apart literals classes equal_in equal_in-apart
        (together_turned equal_in equal_in-equivalence)
        (together_through equal_in equal_in-equivalence) together_equal

    literal_within : (f : Formula) → cover literals classes f ≡ by_literal literals f
        → IsWithin (cover literals classes f) (truth_cover reading f)
    literal_within f e = record {
      holds = λ h. holds_at f true (literal_found literals f true (ap (λ c. c.holds) (sym e) ∙ h));
      fails = λ h. ap not (holds_at f false (literal_found literals f false
          (ap (λ c. c.fails) (sym e) ∙ h)));
    }

    atoms_within : (among : List Formula) → AreAtomsWithin literals classes (truth_cover reading)
        (truth_cover-parts reading) among
    atoms_within among = record {
      of_Forall = λ q h. literal_within (formula.Forall q) (covers.cover-Forall literals classes q);
      of_Exists = λ q h. literal_within (formula.Exists q) (covers.cover-Exists literals classes q);
      of_Eq = λ s t h. eq_within literals classes reading together_equal apart_unequal s t;
      of_Less = λ s t h. literal_within (formula.Less s t) (covers.cover-Less literals classes s t);
      of_Distinct = λ ts h. distinct_within literals classes reading together_equal
          apart_unequal ts;
    }

    within_model : (f : Formula) → IsWithin (cover literals classes f) (truth_cover reading f)
    within_model f = goes_by_atoms literals classes (truth_cover reading)
        (truth_cover-parts reading) f (atoms_within (atoms_of f))

pub together_has_one_value : (terms : List Term) → TogetherHasOneValue (without_numbers terms)
together_has_one_value terms literals classes least M model s t e = equal_values literals M model s
    t (together_equal literals M model terms classes least s t e)

pub cover_is_sound : (terms : List Term) → CoverIsSound (without_numbers terms)
cover_is_sound terms literals classes least M model f =
    let within = within_model literals M model terms classes least f in
    record { holds = within.holds; fails = λ h. not_true (truth (read_in M) f) (within.fails h) }
