-- What literals and their least classes say is so in each model of the literals, whichever terms
-- are arithmetic: to have one value in the model is a test that obeys congruence and arithmetic.
use Rattle.std.proofs.Common.{◌≡◌, Bool, true, false, not, List, ap, sym, ◌∙◌}
use Rattle.std.specs.List.{All, Contains}
use Rattle.std.proofs.lemmas.List.Elements.{All-contains}
use Rattle.esc_term.specs.declared.term.Term.{Term}
use Rattle.esc_term.specs.declared.term.Term.TheVariants.{Num}
use Rattle.esc_term.specs.declared.formula.Formula.{Formula}
use Rattle.esc_term.specs.declared.formula.Formula.TheVariants as formula
use Rattle.esc_term.specs.declared.formula.Item.{Item}
use Rattle.esc_term.specs.Interpretation.{Interpretation, truth}
use Rattle.esc_term.specs.Model.{Model, read_in, value_in}
use Rattle.esc_term.proofs.Models.{value_in-Num}
use Rattle.esc_term.proofs.TruthLevels.{truth-Distinct, truth-Eq}
use Rattle.esc_cover.specs.Arithmetic.{InPlay}
use Rattle.esc_cover.specs.Atoms.{atoms_of}
use Rattle.esc_cover.specs.Classes.{together}
use Rattle.esc_cover.specs.Cover.{by_literal, cover, is_forced_apart}
use Rattle.esc_cover.specs.Laws.{CoverIsSound, HoldsIn, TogetherHasOneValue}
use Rattle.esc_cover.specs.Least.{IsLeast}
use Rattle.esc_cover.proofs.ClassLemmas.{of_least, together_through, together_turned}
use Rattle.esc_cover.proofs.CoverLevels as covers
use Rattle.esc_cover.proofs.CoverOrder.{AreAtomsWithin, IsWithin, goes_by_atoms}
use Rattle.esc_cover.proofs.ForcedApart.{HoldsApart, forced_apart}
use Rattle.esc_cover.proofs.TestLemmas.{literal_found, not_true}
use Rattle.esc_cover.proofs.TruthCover.{distinct_within, eq_within, truth_cover, truth_cover-parts}
use Rattle.esc_cover.proofs.TwoPlaces.{all_apart-every_two}
use Rattle.esc_sharing.proofs.ModelTest.{equal_in, equal_values, equivalence, model_is_congruent}

module _ (literals : List Item) (M : Model) (holds : All (HoldsIn M) literals) where
  abbrev reading : Interpretation
  reading = read_in M

  holds_at : (f : Formula) (positive : Bool)
      → Contains literals (record { formula = f; positive = positive })
      → truth reading f ≡ positive
  holds_at f positive h = All-contains (HoldsIn M) literals
      (record { formula = f; positive = positive }) holds h

  -- what is held apart has two values
  values_apart : HoldsApart literals (equal_in M)
  values_apart = record {
    unequal = λ s t h. sym (truth-Eq reading s t) ∙ holds_at (formula.Eq s t) false h;
    distinct = λ ts h. sym (all_apart-every_two (value_in M) ts)
        ∙ (sym (truth-Distinct reading ts) ∙ holds_at (formula.Distinct ts) true h);
    numerals = λ m n e. sym (value_in-Num M m)
        ∙ (equal_values M (Num m) (Num n) e ∙ value_in-Num M n);
  }

  module _ (play : InPlay) (classes : List (List Term))
      (least : IsLeast literals play classes) where
    together_equal : (s t : Term) → together classes s t ≡ true → equal_in M s t ≡ true
    together_equal s t e =
        let found = of_least literals play classes least s t e in
        least.finest (equal_in M) (model_is_congruent M literals holds play) s t found.0 found.1
        found.2

    apart_unequal : (s t : Term) → is_forced_apart literals classes s t ≡ true
        → equal_in M s t ≡ false
    apart_unequal =
        forced_apart literals classes (equal_in M) values_apart
        (together_turned (equal_in M) (equivalence M))
        (together_through (equal_in M) (equivalence M)) together_equal

    literal_within : (f : Formula) → cover literals classes f ≡ by_literal literals f
        → IsWithin (cover literals classes f) (truth_cover reading f)
    literal_within f e = record {
      holds = λ h. holds_at f true (literal_found literals f true (ap (λ c. c.holds) (sym e) ∙ h));
      fails = λ h. ap not (holds_at f false (literal_found literals f false
          (ap (λ c. c.fails) (sym e) ∙ h)));
    }

    atoms_within : (among : List Formula) → AreAtomsWithin literals classes (truth_cover reading)
        (truth_cover-parts reading) among
    atoms_within among = record {
      of_Forall = λ q h. literal_within (formula.Forall q) (covers.cover-Forall literals classes q);
      of_Exists = λ q h. literal_within (formula.Exists q) (covers.cover-Exists literals classes q);
      of_Eq = λ s t h. eq_within literals classes reading together_equal apart_unequal s t;
      of_Less = λ s t h. literal_within (formula.Less s t) (covers.cover-Less literals classes s t);
      of_Distinct = λ ts h. distinct_within literals classes reading together_equal
          apart_unequal ts;
    }

    within_model : (f : Formula) → IsWithin (cover literals classes f) (truth_cover reading f)
    within_model f = goes_by_atoms literals classes (truth_cover reading)
        (truth_cover-parts reading) f (atoms_within (atoms_of f))

pub together_has_one_value : (play : InPlay) → TogetherHasOneValue play
together_has_one_value play literals classes least M holds s t e =
    equal_values M s t (together_equal literals M holds play classes least s t e)

pub cover_is_sound : (play : InPlay) → CoverIsSound play
cover_is_sound play literals classes least M holds f =
    let within = within_model literals M holds play classes least f in
    record { holds = within.holds; fails = λ h. not_true (truth (read_in M) f) (within.fails h) }
