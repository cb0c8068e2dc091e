-- What holds of each element of a list, and of each list that is put together of it.
use Rattle.std.proofs.Common.{◌≡◌, ℕ, List, [], ◌∷◌, ◌++◌, length, map, inl, inr, ap, ◌∙◌}
use Rattle.std.proofs.Common.{arith, ◌≤◌, take, drop, length-append}
use Rattle.std.specs.List.{All, Any, Contains, flat_map}
use Rattle.std.proofs.lemmas.Grind.{flat_map-append}
use Rattle.std.proofs.lemmas.List.{append-nil, get_or-map, length-map, take-append-drop}
use Rattle.std.proofs.lemmas.List.Elements.{All-contains, All-contains_itself, All-weaker}
use Rattle.std.proofs.lemmas.List.Elements.{Contains-append_left, Contains-append_right}
use Rattle.esc_term.proofs.Members.{Contains-cases, Contains-flat_map, Contains-here}
use Rattle.esc_term.proofs.Members.{Contains-in_flat_map, Contains-later, Contains-none}

-- ---- of each element

module _ {X : Type 0} (P : X → Type 0) where
  pub All-each : (xs : List X) → ((x : X) → Contains xs x → P x) → All P xs
  All-each xs each = All-weaker (Contains xs) P each xs (All-contains_itself xs)

  module _ {Y : Type 0} (f : Y → List X) where
    pub All-flat_map : (ys : List Y) → All (λ y. All P (f y)) ys → All P (flat_map f ys)
    All-flat_map ys all = All-each (flat_map f ys) (λ x h.
        let found = Contains-flat_map f ys x h in
        All-contains P (f found.0) x (All-contains (λ y. All P (f y)) ys found.0 all found.1)
        found.2)

    pub flat_map-All : (ys : List Y) → All P (flat_map f ys) → All (λ y. All P (f y)) ys
    flat_map-All ys all = All-weaker (Contains ys) (λ y. All P (f y))
        (λ y h. All-each (f y) (λ x k. All-contains P (flat_map f ys) x all
        (Contains-in_flat_map f ys y x h k))) ys (All-contains_itself ys)

  pub All-append_left : (xs ys : List X) → All P (xs ++ ys) → All P xs
  All-append_left xs ys all = All-each xs (λ x h. All-contains P (xs ++ ys) x all
      (Contains-append_left xs ys x h))

  pub All-append_right : (xs ys : List X) → All P (xs ++ ys) → All P ys
  All-append_right xs ys all = All-each ys (λ x h. All-contains P (xs ++ ys) x all
      (Contains-append_right xs ys x h))

  -- an element is one at a place
  pub Any-contains : (xs : List X) (x : X) → Contains xs x → P x → Any P xs
  Any-contains xs x (k, l, is) holds = (k, x, l, is, holds)

-- ---- of images

module _ {X Y : Type 0} (f : X → Y) where
  pub Contains-map : (xs : List X) (x : X) → Contains xs x → Contains (map f xs) (f x)
  Contains-map xs x (k, l, is) =
      (k, omega (arith, l, length-map xs f), get_or-map f xs k x (f x) l ∙ ap f is)

  pub Contains-of_map : (xs : List X) (y : Y) → Contains (map f xs) y
      → (x : X) × Contains xs x × (f x ≡ y)
  Contains-of_map [] y h = absurd (Contains-none y h)
  Contains-of_map (x ∷ xs) y h =
      elim (Contains-cases (f x) (map f xs) y h) [
        | inl e ↦ (x, Contains-here x xs, e)
        | inr later ↦
            let found = Contains-of_map xs y later in
            (found.0, Contains-later x xs found.0 found.1, found.2)
      ]

-- ---- lists that are put together of lists

module _ {X Y : Type 0} (f : X → List Y) where
  pub flat_map-push : (xs : List X) (x : X)
      → flat_map f (xs ++ (x ∷ [])) ≡ flat_map f xs ++ f x
  flat_map-push xs x = flat_map-append f xs (x ∷ [])
      ∙ ap (λ ys. flat_map f xs ++ ys) (append-nil (f x))

  -- those of the first ones are no more
  pub flat_map-take_le : (xs : List X) (n : ℕ)
      → length (flat_map f (take n xs)) ≤ length (flat_map f xs)
  flat_map-take_le xs n =
      omega (
        arith,
        ap (λ ys. length (flat_map f ys)) (take-append-drop n xs),
        ap length (flat_map-append f (take n xs) (drop n xs)),
        length-append (flat_map f (take n xs)) (flat_map f (drop n xs)),
      )
