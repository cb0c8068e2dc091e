-- Terms that have one value in a model of the literals pass for terms that belong together.
use Rattle.std.proofs.Common.{◌≡◌, Bool, true, List, [], ◌∷◌, map, refl, ap, sym, ◌∙◌, IsTrue}
use Rattle.std.specs.Cmp.{IsEquivalence}
use Rattle.std.specs.List.{All, AllZip}
use Rattle.std.specs.Ordering.{int_eq}
use Rattle.std.proofs.lemmas.Bool.Decides.{Decides-int_eq}
use Rattle.std.proofs.lemmas.Cmp.{int_eq_equiv}
use Rattle.std.proofs.lemmas.List.Elements.{All-contains, All-weaker}
use Rattle.esc_term.specs.declared.term.Term.{Term}
use Rattle.esc_term.specs.declared.term.Term.TheVariants.{App}
use Rattle.esc_term.specs.declared.formula.Formula.TheVariants as formula
use Rattle.esc_term.specs.declared.formula.Item.{Item}
use Rattle.esc_term.specs.Model.{Model, applied, read_in, value_in}
use Rattle.esc_term.proofs.Models.{value_in-App}
use Rattle.esc_term.proofs.TruthLevels.{truth-Eq}
use Rattle.esc_cover.specs.Arithmetic.{InPlay}
use Rattle.esc_cover.specs.Assignment.{NoneNegative, Suits, asked}
use Rattle.esc_cover.specs.Laws.{HoldsIn}
use Rattle.esc_cover.specs.Least.{AreEqualByValues, IsCongruent}
use Rattle.esc_sharing.proofs.ModelValues.{asked-model, assignment_of, value-model}

module _ (M : Model) where
  abbrev pub equal_in : Term → Term → Bool
  equal_in s t = int_eq (value_in M s) (value_in M t)

  pub equal_values : (s t : Term) → IsTrue (equal_in s t) → value_in M s ≡ value_in M t
  equal_values s t e = (Decides-int_eq (value_in M s) (value_in M t)).0 e

  pub are_equal : (s t : Term) → value_in M s ≡ value_in M t → IsTrue (equal_in s t)
  are_equal s t e = (Decides-int_eq (value_in M s) (value_in M t)).1 e

  pub equivalence : IsEquivalence equal_in
  equivalence = record {
    refl = λ t. int_eq_equiv.refl (value_in M t);
    symm = λ s t. int_eq_equiv.symm (value_in M s) (value_in M t);
    congr = λ s t u. int_eq_equiv.congr (value_in M s) (value_in M t) (value_in M u);
  }

  equal_args : (ss ts : List Term) → AllZip (λ s t. IsTrue (equal_in s t)) ss ts
      → map (value_in M) ss ≡ map (value_in M) ts
  equal_args [] [] zip = refl
  equal_args [] (t ∷ ts) zip = absurd zip
  equal_args (s ∷ ss) [] zip = absurd zip
  equal_args (s ∷ ss) (t ∷ ts) zip = ap (λ n. n ∷ map (value_in M) ss) (equal_values s t zip.0)
      ∙ ap (λ ns. value_in M t ∷ ns) (equal_args ss ts zip.1)

  module _ (literals : List Item) (holds : All (HoldsIn M) literals) where
    -- the model is an assignment that does what the literals and the test ask
    pub model_suits : (numbers : List Term) → Suits literals numbers equal_in (assignment_of M)
    model_suits numbers = record {
      satisfies = All-weaker (HoldsIn M) (λ item. NoneNegative (assignment_of M) (asked item))
          (λ item so. asked-model M item so) literals holds;
      agrees = λ s t a b e. value-model M s ∙ (equal_values s t e ∙ sym (value-model M t));
    }

    equal_by_values : (numbers : List Term) (s t : Term)
        → AreEqualByValues literals numbers equal_in s t → IsTrue (equal_in s t)
    equal_by_values numbers s t equal =
        are_equal s t (sym (value-model M s)
        ∙ (equal (assignment_of M) (model_suits numbers) ∙ value-model M t))

    pub model_is_congruent : (play : InPlay) → IsCongruent equal_in play literals
    model_is_congruent play = record {
      equivalence = equivalence;
      congruence = λ head ss ts h k zip. are_equal (App head ss) (App head ts)
          (value_in-App M head ss ∙ (ap (applied M head) (equal_args ss ts zip)
          ∙ sym (value_in-App M head ts)));
      equations = λ s t h. sym (truth-Eq (read_in M) s t)
          ∙ All-contains (HoldsIn M) literals
          (record { formula = formula.Eq s t; positive = true }) holds h;
      values = λ s t h k equal. equal_by_values play.numbers s t equal;
    }
