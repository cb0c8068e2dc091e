-- Texts that are printed one after another.
use Rattle.std.proofs.Common.{◌≡◌, ℕ, List, [], ◌++◌, refl, sym, ◌∙◌, subst}
use Rattle.std.specs.Prelude.{Option, Result, Ok, Err, IsErr}
use Rattle.esc_io.specs.Putting.{Delivers}
use Rattle.esc_io.proofs.PuttingLemmas.{Delivers-fails, Delivers-start, Delivers-then}
use Rattle.esc_print.specs.declared.printer.Printer.{Printer}
use Rattle.esc_print.specs.Formulas.{both_text}
use Rattle.esc_print.specs.Printing.{Prints}
use Rattle.esc_print.specs.Terms.{blank, closing}

module _ {S E : Type 0} {written : S → Option (List ℕ)} {faults : S → ℕ} where
  -- one text and then another
  pub Prints-then : {T U : Type 0} {old mid new : Printer S} {t : T} {r : Result U E}
      {xs ys : List ℕ}
      → Prints {T = T} {E = E} written faults old mid (Ok t) xs → Prints written faults mid new r ys
      → Prints written faults old new r (xs ++ ys)
  Prints-then p q =
      record {
        names = q.names ∙ p.names;
        same_sink = q.same_sink ∙ p.same_sink;
        delivers = Delivers-then p.delivers q.delivers;
      }

  -- the same where the second is told by the names that the first call left
  pub Prints-named : {T U : Type 0} {old mid new : Printer S} {t : T} {r : Result U E} {xs : List ℕ}
      (ys : List (List ℕ) → List ℕ) → Prints {T = T} {E = E} written faults old mid (Ok t) xs
      → Prints written faults mid new r (ys mid.names.now)
      → Prints written faults old new r (xs ++ ys old.names.now)
  Prints-named {old = old} {mid = mid} {new = new} {r = r} {xs = xs} ys p q =
      Prints-then p (subst (λ names. Prints written faults mid new r (ys names)) p.names q)

  -- nothing was printed so far
  pub Prints-start : {T : Type 0} {t : T} (printer : Printer S)
      → Prints {T = T} {E = E} written faults printer printer (Ok t) []
  Prints-start printer =
      record { names = refl; same_sink = refl; delivers = Delivers-start printer.sink.now }

  -- a call that failed put a front of any text that goes on so
  pub Prints-fails : {T U : Type 0} {old new : Printer S} {r : Result T E} {e : E} {xs : List ℕ}
      (ys : List ℕ) → IsErr r → Prints {T = U} written faults old new (Err e) xs
      → Prints written faults old new r (xs ++ ys)
  Prints-fails {r = r} ys is_err p =
      record {
        names = p.names;
        same_sink = p.same_sink;
        delivers = Delivers-fails r ys is_err p.delivers;
      }

  -- two texts behind a word
  pub Prints-both : {T U V : Type 0} {old first second new : Printer S} {t : T} {u : U}
      {r : Result V E} {word : List ℕ}
      (left right : List (List ℕ) → List ℕ)
      → Prints {T = T} {E = E} written faults old first (Ok t) word
      → Prints {T = U} {E = E} written faults first second (Ok u) (blank ++ left first.names.now)
      → Prints written faults second new r ((blank ++ right second.names.now) ++ closing)
      → Prints written faults old new r (both_text word (left old.names.now) (right old.names.now))
  Prints-both left right p q last =
      Prints-named (λ names. (blank ++ left names) ++ ((blank ++ right names) ++ closing)) p
      (Prints-named (λ names. (blank ++ right names) ++ closing) q last)

  -- a front of the first of two texts behind a word
  pub Prints-both-fails : {T U V : Type 0} {old mid new : Printer S} {t : T} {r : Result V E}
      {e : E} {word : List ℕ}
      (left : List (List ℕ) → List ℕ) (right : List ℕ) → IsErr r
      → Prints {T = T} {E = E} written faults old mid (Ok t) word
      → Prints {T = U} written faults mid new (Err e) (blank ++ left mid.names.now)
      → Prints written faults old new r (both_text word (left old.names.now) right)
  Prints-both-fails left right is_err p q =
      let rest = (blank ++ right) ++ closing in
      Prints-named (λ names. (blank ++ left names) ++ rest) p (Prints-fails rest is_err q)

  -- a list behind its word
  pub Prints-listed : {T U V : Type 0} {old first second new : Printer S} {t : T} {u : U}
      {r : Result V E} {word : List ℕ}
      (items : List (List ℕ) → List ℕ) → Prints {T = T} {E = E} written faults old first (Ok t) word
      → Prints {T = U} {E = E} written faults first second (Ok u) (items first.names.now)
      → Prints written faults second new r closing
      → Prints written faults old new r (word ++ (items old.names.now ++ closing))
  Prints-listed items p q last =
      Prints-named (λ names. items names ++ closing) p (Prints-then q last)

  -- a front of a list behind its word
  pub Prints-listed-fails : {T U V : Type 0} {old mid new : Printer S} {t : T} {r : Result V E}
      {e : E} {word : List ℕ}
      (items : List (List ℕ) → List ℕ) → IsErr r
      → Prints {T = T} {E = E} written faults old mid (Ok t) word
      → Prints {T = U} written faults mid new (Err e) (items mid.names.now)
      → Prints written faults old new r (word ++ (items old.names.now ++ closing))
  Prints-listed-fails items is_err p q =
      Prints-named (λ names. items names ++ closing) p (Prints-fails closing is_err q)
