-- The first terms of the classes: a term belongs to the class of one of them exactly where it
-- belongs to that of one of the terms.
use Rattle.std.proofs.Common.{◌≡◌, Bool, true, false, ◌||◌, if◌then◌else◌, List, [], ◌∷◌, ◌++◌}
use Rattle.std.proofs.Common.{refl, ap, sym, ◌∙◌}
use Rattle.std.specs.Cmp.{IsEquivalence}
use Rattle.std.specs.List.{fold, list_any}
use Rattle.std.proofs.lemmas.List.Folds.{list_any-append}
use Rattle.std.proofs.lemmas.Map.Steps.{list_any_congr}
use Rattle.esc_term.specs.declared.term.Term.{Term}
use Rattle.esc_cover.specs.Classes.{leaders, with_new_class}
use Rattle.esc_cover.proofs.TestLemmas.{or_right}

pub or-false : (a : Bool) → (a || false) ≡ a
or-false true = refl
or-false false = refl

or_nested : (a b c : Bool) → ((a || b) || c) ≡ (a || (b || c))
or_nested true b c = refl
or_nested false b c = refl

module _ (same : Term → Term → Bool) (eq : IsEquivalence same) where
  with_one_more : (seen : List Term) (u t : Term) → list_any (same t) (with_new_class same seen u)
      ≡ (list_any (same t) seen || same t u)
  with_one_more seen u t = go (list_any (same u) seen) refl (same t u) refl
    where
      go : (b : Bool) → list_any (same u) seen ≡ b → (c : Bool) → same t u ≡ c
          → list_any (same t) (if list_any (same u) seen then seen else seen ++ u ∷ [])
          ≡ (list_any (same t) seen || same t u)
      go true is true e =
          ap (λ b. list_any (same t) (if b then seen else seen ++ u ∷ [])) is
          ∙ (list_any_congr eq t u seen e ∙ is)
          ∙ sym (or_right (list_any (same t) seen) (same t u) e)
      go true is false e =
          ap (λ b. list_any (same t) (if b then seen else seen ++ u ∷ [])) is
          ∙ sym (or-false (list_any (same t) seen)) ∙ ap (λ b. list_any (same t) seen || b) (sym e)
      go false is c e =
          ap (λ b. list_any (same t) (if b then seen else seen ++ u ∷ [])) is
          ∙ list_any-append (same t) seen (u ∷ [])
          ∙ ap (λ b. list_any (same t) seen || b) (or-false (same t u))

  with_more : (us seen : List Term) (t : Term) →
      list_any (same t) (fold (with_new_class same) seen us)
      ≡ (list_any (same t) seen || list_any (same t) us)
  with_more [] seen t = sym (or-false (list_any (same t) seen))
  with_more (u ∷ us) seen t =
      with_more us (with_new_class same seen u) t
      ∙ ap (λ b. b || list_any (same t) us) (with_one_more seen u t)
      ∙ or_nested (list_any (same t) seen) (same t u) (list_any (same t) us)

  pub list_any-leaders : (us : List Term) (t : Term) →
      list_any (same t) (leaders same us) ≡ list_any (same t) us
  list_any-leaders us t = with_more us [] t
