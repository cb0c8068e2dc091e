-- What a loop over a list that counts on its tests has found after one more element.
use Rattle.std.proofs.Common.{◌≡◌, ℕ, ◌+◌, ◌<◌, Bool, ◌&&◌, ◌||◌, List, length, get_or, take, ap}
use Rattle.std.proofs.Common.{sym, ◌∙◌}
use Rattle.std.specs.List.{list_all, list_any}
use Rattle.std.proofs.lemmas.List.Folds.{list_all_more, list_any_more}

module _ {X : Type 0} (p : X → Bool) (xs : List X) (i : ℕ) (x : X) (l : i < length xs)
    (at : x ≡ get_or xs i x) where
  pub all_more : (before here after : Bool) → after ≡ (before && here) →
      before ≡ list_all p (take i xs) → here ≡ p x → after ≡ list_all p (take (i + 1) xs)
  all_more before here after both seen found =
      both ∙ ap (λ b. b && here) seen ∙ ap (λ b. list_all p (take i xs) && b) (found ∙ ap p at)
      ∙ sym (list_all_more p xs i x l)

  pub any_more : (before here after : Bool) → after ≡ (before || here) →
      before ≡ list_any p (take i xs) → here ≡ p x → after ≡ list_any p (take (i + 1) xs)
  any_more before here after either seen found =
      either ∙ ap (λ b. b || here) seen ∙ ap (λ b. list_any p (take i xs) || b) (found ∙ ap p at)
      ∙ sym (list_any_more p xs i x l)
