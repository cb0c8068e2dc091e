-- Facts of each element of a list, and tests of its elements.
use Rattle.std.proofs.Common.{◌≡◌, ◌⊎◌, inl, inr, Bool, true, false, ◌||◌, List, [], ◌∷◌, map, refl, ap, ◌∙◌}
use Rattle.std.specs.List.{All, Contains, list_any}
use Rattle.std.proofs.lemmas.List.Elements.{All-nil, All-cons, All-head, All-tail}
use Rattle.esc_term.proofs.Members.{Contains-none, Contains-cases}

module _ {X : Type 0} (P : X → Type 0) where
  -- where each fact stands beside its element
  pub all_of_pairs : (es : List ((x : X) × P x)) → All P (map (λ e. e.0) es)
  all_of_pairs [] = All-nil P
  all_of_pairs (e ∷ es) = All-cons P e.0 (map (λ e. e.0) es) e.1 (all_of_pairs es)

  pub all_by : (Q : X → Type 0) → ((x : X) → P x → Q x) → (xs : List X) → All P xs → All Q xs
  all_by Q step [] h = All-nil Q
  all_by Q step (x ∷ xs) h = All-cons Q x xs (step x (All-head P x xs h))
      (all_by Q step xs (All-tail P x xs h))

pub any_none : {X : Type 0} (p : X → Bool) (xs : List X) → ((x : X) → p x ≡ false)
    → list_any p xs ≡ false
any_none p [] h = refl
any_none p (x ∷ xs) h = ap (λ b. b || list_any p xs) (h x) ∙ any_none p xs h

pub any_some : {X : Type 0} (p : X → Bool) (xs : List X) (x : X) → Contains xs x → p x ≡ true
    → list_any p xs ≡ true
any_some p [] x h e = absurd (Contains-none x h)
any_some p (y ∷ ys) x h e =
    go (p y) refl (elim (Contains-cases y ys x h) [
      | inl is ↦ inl (ap p is ∙ e)
      | inr later ↦ inr
          (any_some p ys x later e)
    ])
  where
    go : (b : Bool) → p y ≡ b → (p y ≡ true) ⊎ (list_any p ys ≡ true) → (b || list_any p ys) ≡ true
    go true e or = refl
    go false e (inl first) = absurd (cc)
    go false e (inr later) = later
