-- A list of which the elements before a place are mapped.
use Rattle.std.proofs.Common.{◌≡◌, ℕ, ◌+◌, ◌<◌, ◌≤◌, List, [], ◌∷◌, ◌++◌, length, map, set, take}
use Rattle.std.proofs.Common.{drop, get_or, ap, sym, ◌∙◌, append_assoc, arith, length-append}
use Rattle.std.proofs.lemmas.List.{append-nil, drop_all, drop_more, get_or_at, length-map}
use Rattle.std.proofs.lemmas.List.{length-take-le, map-append, set_at, take_all, take_more}
use Rattle.std.proofs.lemmas.List.{take-append-drop}

module _ {X : Type 0} (f : X → X) (xs : List X) where
  abbrev front : ℕ → List X
  front n = map f (take n xs)

  abbrev pub mapped_before : ℕ → List X
  mapped_before n = front n ++ drop n xs

  length-front : (n : ℕ) → n < length xs → length (front n) ≡ n
  length-front n l = length-map (take n xs) f ∙ length-take-le n xs (omega (arith, l))

  pub length-mapped_before : (n : ℕ) → length (mapped_before n) ≡ length xs
  length-mapped_before n =
      length-append (front n) (drop n xs)
      ∙ ap (λ k. k + length (drop n xs)) (length-map (take n xs) f)
      ∙ sym (length-append (take n xs) (drop n xs))
      ∙ ap length (take-append-drop n xs)

  -- one element more, whatever follows
  pub mapped_more : (n : ℕ) (d : X) (ys : List X) → n < length xs
      → map f (take (n + 1) xs) ++ ys ≡ map f (take n xs) ++ f (get_or xs n d) ∷ ys
  mapped_more n d ys l =
      ap (λ zs. map f zs ++ ys) (take_more xs n d l)
      ∙ ap (λ zs. zs ++ ys) (map-append f (take n xs) (get_or xs n d ∷ []))
      ∙ append_assoc (front n) (f (get_or xs n d) ∷ []) ys

  mapped_here : (n : ℕ) (d : X) → n < length xs
      → mapped_before n ≡ front n ++ get_or xs n d ∷ drop (n + 1) xs
  mapped_here n d l = ap (λ ys. front n ++ ys) (drop_more xs n d l)

  pub mapped_item : (n : ℕ) (d : X) → n < length xs
      → get_or (mapped_before n) n d ≡ get_or xs n d
  mapped_item n d l =
      ap (λ ys. get_or ys n d) (mapped_here n d l)
      ∙ get_or_at (front n) (get_or xs n d) (drop (n + 1) xs) d n (length-front n l)

  -- the element at the place is mapped to itself
  pub mapped_keeps : (n : ℕ) (d : X) → n < length xs → f (get_or xs n d) ≡ get_or xs n d
      → mapped_before n ≡ mapped_before (n + 1)
  mapped_keeps n d l same =
      mapped_here n d l
      ∙ ap (λ x. front n ++ x ∷ drop (n + 1) xs) (sym same)
      ∙ sym (mapped_more n d (drop (n + 1) xs) l)

  -- what the element at the place is mapped to is put there
  pub mapped_sets : (n : ℕ) (d : X) → n < length xs
      → set (mapped_before n) n (f (get_or xs n d)) ≡ mapped_before (n + 1)
  mapped_sets n d l =
      ap (λ ys. set ys n (f (get_or xs n d))) (mapped_here n d l)
      ∙ set_at (front n) (get_or xs n d) (drop (n + 1) xs) (f (get_or xs n d)) n (length-front n l)
      ∙ sym (mapped_more n d (drop (n + 1) xs) l)

  pub mapped_all : (n : ℕ) → length xs ≤ n → mapped_before n ≡ map f xs
  mapped_all n l =
      ap (λ ys. map f ys ++ drop n xs) (take_all n xs l)
      ∙ ap (λ ys. map f xs ++ ys) (drop_all n xs l) ∙ append-nil (map f xs)
