-- Lists whose entries are found by a number.
use Rattle.std.proofs.Common.{◌≡◌, ℕ, ◌-◌, ◌<◌, List, [], ◌∷◌, ◌++◌, length, map, take, get_or, sym, ap, ◌∙◌, arith}
use Rattle.std.proofs.lemmas.List.{get_or-map, length-map, map-append}
use Rattle.std.specs.List.{take-map}
use Rattle.std.specs.List.{Contains}
use Rattle.esc_index.specs.Places.{HasNone, entry_at}
use Rattle.esc_simplex.specs.KeyedInside.{HasKeys, itself}
use Rattle.esc_simplex.proofs.Lists.{take-push}

module _ {X : Type 0} (key : X → ℕ) (xs : List X) (entries : List (ℕ × ℕ))
    (keys : HasKeys key xs entries) where
  pub keyed_length : length entries ≡ length xs
  keyed_length = sym (length-map entries (λ entry. entry.0)) ∙ ap length keys ∙ length-map xs key

  pub keyed_at : (k : ℕ) (d : X) → k < length xs → (entry_at entries k).0 ≡ key (get_or xs k d)
  keyed_at k d inside =
      let there : k < length entries = omega (arith, keyed_length) in
      sym (get_or-map (λ (entry : ℕ × ℕ). entry.0) entries k (0, 0) 0 there)
      ∙ ap (λ (ks : List ℕ). get_or ks k 0) keys ∙ get_or-map key xs k d 0 inside

  pub keyed_push : (x : X) (node : ℕ)
      → HasKeys key (xs ++ x ∷ []) (entries ++ (key x, node) ∷ [])
  keyed_push x node =
      map-append (λ (entry : ℕ × ℕ). entry.0) entries ((key x, node) ∷ [])
      ∙ ap (λ ks. ks ++ key x ∷ []) keys ∙ sym (map-append key xs (x ∷ []))

  pub keyed_take : (n : ℕ) → HasKeys key (take n xs) (take n entries)
  keyed_take n =
      sym (take-map (λ (entry : ℕ × ℕ). entry.0) n entries) ∙ ap (take n) keys ∙ take-map key n xs

-- without the newest entry
pub keyed_pop : {X : Type 0} (key : X → ℕ) (xs ys : List X) (x : X) (entries : List (ℕ × ℕ))
    → HasKeys key xs entries → xs ≡ ys ++ x ∷ []
    → HasKeys key ys (take (length entries - 1) entries)
keyed_pop key xs ys x entries keys is =
    let long = keyed_length key xs entries keys in
    ap (λ n. map (λ (entry : ℕ × ℕ). entry.0) (take (n - 1) entries)) long
    ∙ keyed_take key xs entries keys (length xs - 1)
    ∙ ap (λ zs. map key (take (length zs - 1) zs)) is ∙ ap (map key) (take-push ys x)

-- an unknown that no place has was not added
pub keyed_none : (us : List ℕ) (entries : List (ℕ × ℕ)) (u : ℕ) → HasKeys itself us entries
    → HasNone entries u 0 (length entries) → Contains us u → ⊥
keyed_none us entries u keys none h =
    let long : length entries ≡ length us = keyed_length itself us entries keys in
    none h.0 (omega arith) (omega (arith, long, h.1)) (keyed_at itself us entries keys h.0 u h.1
    ∙ h.2)
