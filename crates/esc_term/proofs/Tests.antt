-- Tests of all elements of a list.
use Rattle.std.proofs.Common.{◌≡◌, Bool, true, ◌&&◌, List, [], ◌∷◌, map, refl, ap, ◌∙◌}
use Rattle.std.specs.List.{flat_map, list_all}
use Rattle.std.proofs.lemmas.Bool.{and_parts, and_from}
use Rattle.std.proofs.lemmas.List.Folds.{list_all-append}

module _ {X : Type 0} (p q : X → Bool) where
  -- a test that follows from another, of all elements
  pub implied : ((x : X) → p x ≡ true → q x ≡ true) → (xs : List X)
      → list_all p xs ≡ true → list_all q xs ≡ true
  implied step [] h = refl
  implied step (x ∷ xs) h =
      let parts = and_parts (p x) (list_all p xs) h in
      and_from (q x) (list_all q xs) (step x parts.0) (implied step xs parts.1)

  -- where what links the tests stands beside each element
  pub implied_by : (P : X → Type 0) → ((x : X) → P x → p x ≡ true → q x ≡ true)
      → (es : List ((x : X) × P x))
      → list_all p (map (λ e. e.0) es) ≡ true → list_all q (map (λ e. e.0) es) ≡ true
  implied_by P step [] h = refl
  implied_by P step (e ∷ es) h =
      let parts = and_parts (p e.0) (list_all p (map (λ e. e.0) es)) h in
      and_from (q e.0) (list_all q (map (λ e. e.0) es)) (step e.0 e.1 parts.0)
      (implied_by P step es parts.1)

pub list_all-flat_map : {X A : Type 0} (p : A → Bool) (f : X → List A) (xs : List X)
    → list_all p (flat_map f xs) ≡ list_all (λ x. list_all p (f x)) xs
list_all-flat_map p f [] = refl
list_all-flat_map p f (x ∷ xs) = list_all-append p (f x) (flat_map f xs)
    ∙ ap (λ b. list_all p (f x) && b) (list_all-flat_map p f xs)
