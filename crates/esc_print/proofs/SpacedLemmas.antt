-- Texts that are printed one after another, each behind a blank.
use Rattle.std.proofs.Common.{◌≡◌, ℕ, ◌+◌, ◌≤◌, ◌<◌, List, [], ◌∷◌, ◌++◌, length, take, drop}
use Rattle.std.proofs.Common.{get_or, sym, ◌∙◌, ap, subst}
use Rattle.std.proofs.lemmas.Grind.{flat_map-append}
use Rattle.std.proofs.lemmas.List.{append-nil, take_all, take_more, take-append-drop}
use Rattle.std.specs.Prelude.{Option, Result, Ok, Err, IsErr}
use Rattle.esc_print.specs.declared.printer.Printer.{Printer}
use Rattle.esc_print.specs.Printing.{Prints}
use Rattle.esc_print.specs.Terms.{blank, spaced}
use Rattle.esc_print.proofs.PrintingLemmas.{Prints-fails, Prints-named, Prints-start}

module _ {X : Type 0} (text : X → List ℕ) where
  more : (xs : List X) (i : ℕ) (x : X) → i < length xs → get_or xs i x ≡ x
      → spaced text (take (i + 1) xs) ≡ spaced text (take i xs) ++ (blank ++ text x)
  unfolding spaced
  more xs i x h e =
      ap (spaced text) (take_more xs i x h)
      ∙ flat_map-append (λ y. blank ++ text y) (take i xs) (get_or xs i x ∷ [])
      ∙ ap (λ last. spaced text (take i xs) ++ last) (append-nil (blank ++ text (get_or xs i x)))
      ∙ ap (λ y. spaced text (take i xs) ++ (blank ++ text y)) e

  whole : (xs : List X) (i : ℕ)
      → spaced text (take i xs) ++ spaced text (drop i xs) ≡ spaced text xs
  unfolding spaced
  whole xs i =
      sym (flat_map-append (λ y. blank ++ text y) (take i xs) (drop i xs))
      ∙ ap (spaced text) (take-append-drop i xs)

-- each of the texts may depend on the printer's names
module _ {S E X : Type 0} {written : S → Option (List ℕ)} {faults : S → ℕ}
    (text : List (List ℕ) → X → List ℕ) where
  -- no text yet
  pub spaced_start : {T : Type 0} {t : T} (xs : List X) (printer : Printer S)
      → Prints {T = T} {E = E} written faults printer printer (Ok t)
      (spaced (text printer.names.now) (take 0 xs))
  unfolding spaced
  spaced_start xs printer = Prints-start printer

  -- one more text
  pub spaced_step : {T U : Type 0} {old mid new : Printer S} {t : T} {r : Result U E} (xs : List X)
      (i : ℕ) (x : X)
      → i < length xs → get_or xs i x ≡ x
      → Prints {T = T} {E = E} written faults old mid (Ok t)
      (spaced (text old.names.now) (take i xs))
      → Prints written faults mid new r (blank ++ text mid.names.now x)
      → Prints written faults old new r (spaced (text old.names.now) (take (i + 1) xs))
  spaced_step {old = old} {mid = mid} {new = new} {r = r} xs i x h e p q =
      subst (λ all. Prints written faults old new r all)
      (sym (more (text old.names.now) xs i x h e))
      (Prints-named (λ names. blank ++ text names x) p q)

  -- a front of one more text
  pub spaced_failed : {T U V : Type 0} {old mid new : Printer S} {t : T} {r : Result U E} {e : E}
      (xs : List X) (i : ℕ) (x : X)
      → i < length xs → get_or xs i x ≡ x
      → Prints {T = T} {E = E} written faults old mid (Ok t)
      (spaced (text old.names.now) (take i xs))
      → IsErr r → Prints {T = V} written faults mid new (Err e) (blank ++ text mid.names.now x)
      → Prints written faults old new r (spaced (text old.names.now) xs)
  spaced_failed {old = old} {new = new} {r = r} xs i x h is p is_err q =
      subst (λ all. Prints written faults old new r all) (whole (text old.names.now) xs (i + 1))
      (Prints-fails (spaced (text old.names.now) (drop (i + 1) xs)) is_err
      (spaced_step xs i x h is p q))

  -- no further text
  pub spaced_done : {T : Type 0} {old new : Printer S} {r : Result T E} (xs : List X) (i : ℕ)
      → length xs ≤ i
      → Prints written faults old new r (spaced (text old.names.now) (take i xs))
      → Prints written faults old new r (spaced (text old.names.now) xs)
  spaced_done {old = old} {new = new} {r = r} xs i h p =
      subst (λ all. Prints written faults old new r (spaced (text old.names.now) all))
      (take_all i xs h) p
