-- Two congruent tests meet in a congruent one.
use Rattle.std.proofs.Common.{Bool, ◌&&◌, List, [], ◌∷◌, ap₂}
use Rattle.std.specs.Prelude.{IsTrue}
use Rattle.std.specs.Cmp.{IsEquivalence}
use Rattle.std.specs.List.{AllZip}
use Rattle.esc_term.specs.declared.term.Term.{Term}
use Rattle.esc_term.specs.declared.formula.Item.{Item}
use Rattle.esc_cover.specs.Arithmetic.{InPlay}
use Rattle.esc_cover.specs.Assignment.{Assignment, Suits}
use Rattle.esc_cover.specs.Laws.{CongruentTestsMeet}
use Rattle.esc_cover.specs.Least.{IsCongruent}
use Rattle.esc_cover.proofs.TestLemmas.{and_both, and_left, and_right}

module _ (play : InPlay) (literals : List Item) (p q : Term → Term → Bool) where
  abbrev both : Term → Term → Bool
  both s t = p s t && q s t

  zip_left : (ss ts : List Term) → AllZip (λ s t. IsTrue (both s t)) ss ts
      → AllZip (λ s t. IsTrue (p s t)) ss ts
  zip_left [] [] h = tt
  zip_left [] (t ∷ ts) h = absurd h
  zip_left (s ∷ ss) [] h = absurd h
  zip_left (s ∷ ss) (t ∷ ts) h = (and_left (p s t) (q s t) h.0, zip_left ss ts h.1)

  zip_right : (ss ts : List Term) → AllZip (λ s t. IsTrue (both s t)) ss ts
      → AllZip (λ s t. IsTrue (q s t)) ss ts
  zip_right [] [] h = tt
  zip_right [] (t ∷ ts) h = absurd h
  zip_right (s ∷ ss) [] h = absurd h
  zip_right (s ∷ ss) (t ∷ ts) h = (and_right (p s t) (q s t) h.0, zip_right ss ts h.1)

  equivalence_both : IsEquivalence p → IsEquivalence q → IsEquivalence both
  equivalence_both a b = record {
    refl = λ s. and_both (p s s) (q s s) (a.refl s) (b.refl s);
    symm = λ s t. ap₂ (λ x y. x && y) (a.symm s t) (b.symm s t);
    congr = λ s t u e. ap₂ (λ x y. x && y) (a.congr s t u (and_left (p s t) (q s t) e))
        (b.congr s t u (and_right (p s t) (q s t) e));
  }

  -- what suits the one, or the other, suits both
  suits_left : (v : Assignment) → Suits literals play.numbers p v
      → Suits literals play.numbers both v
  suits_left v h = record {
    satisfies = h.satisfies;
    agrees = λ s t a b e. h.agrees s t a b
        (and_left (p s t) (q s t) e);
  }

  suits_right : (v : Assignment) → Suits literals play.numbers q v
      → Suits literals play.numbers both v
  suits_right v h = record {
    satisfies = h.satisfies;
    agrees = λ s t a b e. h.agrees s t a b
        (and_right (p s t) (q s t) e);
  }

  congruent_both : IsCongruent p play literals → IsCongruent q play literals
      → IsCongruent both play literals
  congruent_both a b = record {
    equivalence = equivalence_both a.equivalence b.equivalence;
    congruence = λ head ss ts h k zip. and_both _ _
        (a.congruence head ss ts h k (zip_left ss ts zip))
        (b.congruence head ss ts h k (zip_right ss ts zip));
    equations = λ s t h. and_both (p s t) (q s t) (a.equations s t h) (b.equations s t h);
    values = λ s t h k equal. and_both (p s t) (q s t)
        (a.values s t h k (λ v suits. equal v (suits_left v suits)))
        (b.values s t h k (λ v suits. equal v (suits_right v suits)));
  }

pub congruent_tests_meet : CongruentTestsMeet
congruent_tests_meet play literals p q a b = congruent_both play literals p q a b
