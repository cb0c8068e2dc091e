-- Texts of the elements of a list, put one after another.
use Rattle.std.proofs.Common.{◌≡◌, ℕ, ◌+◌, ◌<◌, ◌≤◌, List, [], ◌∷◌, ◌++◌, take, drop, length}
use Rattle.std.proofs.Common.{get_or, ap, sym, subst, ◌∙◌}
use Rattle.std.specs.Prelude.{Option, Result, Ok, Err, IsErr}
use Rattle.std.specs.List.{flat_map}
use Rattle.std.proofs.lemmas.List.{append-nil, take_all, take_more, take-append-drop}
use Rattle.std.proofs.lemmas.List.Concat.{flat_map-append}
use Rattle.esc_io.specs.Putting.{Delivers}
use Rattle.esc_io.proofs.PuttingLemmas.{Delivers-fails, Delivers-start, Delivers-then}

module _ {X : Type 0} (text : X → List ℕ) where
  more : (xs : List X) (i : ℕ) (x : X) → i < length xs → get_or xs i x ≡ x
      → flat_map text (take (i + 1) xs) ≡ flat_map text (take i xs) ++ text x
  more xs i x h is =
      ap (flat_map text) (take_more xs i x h)
      ∙ flat_map-append text (take i xs) (get_or xs i x ∷ [])
      ∙ ap (λ l. flat_map text (take i xs) ++ l) (append-nil (text (get_or xs i x)))
      ∙ ap (λ y. flat_map text (take i xs) ++ text y) is

  split : (xs : List X) (i : ℕ)
      → flat_map text (take i xs) ++ flat_map text (drop i xs) ≡ flat_map text xs
  split xs i =
      sym (flat_map-append text (take i xs) (drop i xs))
      ∙ ap (flat_map text) (take-append-drop i xs)

  module _ {S E : Type 0} {written : S → Option (List ℕ)} {faults : S → ℕ} (xs : List X) where
    -- no text yet
    pub each_start : {T : Type 0} {t : T} (sink : S)
        → Delivers {T = T} {E = E} written faults sink sink (Ok t) (flat_map text (take 0 xs))
    each_start sink = Delivers-start sink

    -- one more text
    pub each_step : {T U : Type 0} {old mid new : S} {t : T} {r : Result U E} (i : ℕ) (x : X)
        → i < length xs → get_or xs i x ≡ x
        → Delivers {T = T} {E = E} written faults old mid (Ok t) (flat_map text (take i xs))
        → Delivers written faults mid new r (text x)
        → Delivers written faults old new r (flat_map text (take (i + 1) xs))
    each_step {old = old} {new = new} {r = r} i x h is p q =
        subst (λ all. Delivers written faults old new r all) (sym (more xs i x h is))
        (Delivers-then p q)

    -- a front of one more text
    pub each_failed : {T U V : Type 0} {old mid new : S} {t : T} {r : Result U E} {e : E} (i : ℕ)
        (x : X) → i < length xs → get_or xs i x ≡ x
        → Delivers {T = T} {E = E} written faults old mid (Ok t) (flat_map text (take i xs))
        → IsErr r → Delivers {T = V} written faults mid new (Err e) (text x)
        → Delivers written faults old new r (flat_map text xs)
    each_failed {old = old} {new = new} {r = r} i x h is p is_err q =
        subst (λ all. Delivers written faults old new r all) (split xs (i + 1))
        (Delivers-fails r (flat_map text (drop (i + 1) xs)) is_err (each_step i x h is p q))

    -- no further text
    pub each_done : {T : Type 0} {old new : S} {r : Result T E} (i : ℕ) → length xs ≤ i
        → Delivers written faults old new r (flat_map text (take i xs))
        → Delivers written faults old new r (flat_map text xs)
    each_done {old = old} {new = new} {r = r} i h p =
        subst (λ all. Delivers written faults old new r (flat_map text all)) (take_all i xs h) p
