-- The variables of a quantifier that are printed one after another, and its patterns.
use Rattle.std.proofs.Common.{◌≡◌, ◌≢◌, ℕ, zero, suc, ◌+◌, ◌-◌, ◌<◌, ◌≤◌, List, [], ◌∷◌, ◌++◌}
use Rattle.std.proofs.Common.{length, get_or, refl, sym, ◌∙◌, ap, subst, arith, append_assoc}
use Rattle.std.proofs.lemmas.List.{append-nil}
use Rattle.std.specs.Prelude.{Option, Result, Ok, Err, IsErr, codes}
use Rattle.esc_term.specs.declared.term.Term.{Term}
use Rattle.esc_print.specs.declared.printer.Printer.{Printer}
use Rattle.esc_print.specs.Formulas.{pattern_text, variables_text}
use Rattle.esc_print.specs.Printing.{Prints}
use Rattle.esc_print.specs.Terms.{blank, bound_text, closing, deeper, spaced, term_text}
use Rattle.esc_print.proofs.PrintingLemmas.{Prints-fails, Prints-start, Prints-then}

pub positive : (n : ℕ) → n ≢ 0 → 0 < n
positive zero h = absurd (h refl)
positive (suc n) h = omega arith

pub same_count : (a b : ℕ) → a ≤ b → b ≤ a → a ≡ b
same_count a b h k = omega arith

module _ (d : ℕ) where
  step : (i : ℕ) → 0 < i
      → variables_text d (i + 1) ≡ variables_text d i ++ (blank ++ bound_text (deeper d i))
  unfolding variables_text
  step zero h = absurd (omega arith)
  step (suc n) h = let e : suc n + 1 ≡ suc (suc n) = omega arith in ap (variables_text d) e

  rest : (i m : ℕ) → 0 < i → (more : List ℕ)
      × (variables_text d (i + m) ≡ variables_text d i ++ more)
  rest i zero h =
      let e : i + 0 ≡ i = omega arith in
      ([], ap (variables_text d) e ∙ sym (append-nil (variables_text d i)))
  rest i (suc m) h =
      let r = rest i m h in
      let next = blank ++ bound_text (deeper d (i + m)) in
      let e : i + suc m ≡ (i + m) + 1 = omega arith in
      let first = ap (variables_text d) e ∙ step (i + m) (omega arith) ∙ ap (λ l. l ++ next) r.1 in
      (r.0 ++ next, first ∙ append_assoc (variables_text d i) r.0 next)

  -- the first variables are a front of all
  pub variables_split : (i count : ℕ) → 0 < i → i ≤ count
      → (more : List ℕ) × (variables_text d i ++ more ≡ variables_text d count)
  variables_split i count h k =
      let r = rest i (count - i) h in
      let e : i + (count - i) ≡ count = omega arith in
      (r.0, sym r.1 ∙ ap (variables_text d) e)

  pub variables_first : variables_text d 1 ≡ bound_text d
  unfolding variables_text
  variables_first = refl

module _ {S E : Type 0} {written : S → Option (List ℕ)} {faults : S → ℕ} (d : ℕ) where
  -- no variable
  pub variables_none : {T : Type 0} {t : T} (count : ℕ) (printer : Printer S) → count ≡ 0
      → Prints {T = T} {E = E} written faults printer printer (Ok t) (variables_text d count)
  unfolding variables_text
  variables_none {t = t} count printer e =
      subst (λ n. Prints {E = E} written faults printer printer (Ok t) (variables_text d n)) (sym e)
      (Prints-start printer)

  -- one more variable
  pub variables_step : {T U : Type 0} {old mid new : Printer S} {t : T} {r : Result U E} (i : ℕ)
      → 0 < i
      → Prints {T = T} {E = E} written faults old mid (Ok t) (variables_text d i)
      → Prints written faults mid new r (blank ++ bound_text (deeper d i))
      → Prints written faults old new r (variables_text d (i + 1))
  variables_step {old = old} {new = new} {r = r} i h p q =
      subst (λ l. Prints written faults old new r l) (sym (step d i h)) (Prints-then p q)

  -- a front of the first variables
  pub variables_failed : {T U : Type 0} {old new : Printer S} {r : Result U E} {e : E} (i count : ℕ)
      → 0 < i → i ≤ count
      → IsErr r → Prints {T = T} written faults old new (Err e) (variables_text d i)
      → Prints written faults old new r (variables_text d count)
  variables_failed {old = old} {new = new} {r = r} i count h k is_err p =
      let split = variables_split d i count h k in
      subst (λ l. Prints written faults old new r l) split.1 (Prints-fails split.0 is_err p)

pub pattern_one : (names : List (List ℕ)) (d : ℕ) (terms : List Term) (x : Term) → length terms ≡ 1
    → pattern_text names d terms ≡ term_text names d (get_or terms 0 x)
unfolding pattern_text
pattern_one names d [] x e = absurd (omega arith)
pattern_one names d (t ∷ []) x e = refl
pattern_one names d (t ∷ u ∷ terms) x e = absurd (omega arith)

pub pattern_many : (names : List (List ℕ)) (d : ℕ) (terms : List Term) → length terms ≢ 1
    → pattern_text names d terms ≡ codes "(MPAT" ++ (spaced (term_text names d) terms ++ closing)
unfolding pattern_text
pattern_many names d [] e = refl
pattern_many names d (t ∷ []) e = absurd (e refl)
pattern_many names d (t ∷ u ∷ terms) e = refl
