-- Each table of different names has a numbering.
use Rattle.std.proofs.Common.{◌≡◌, ℕ, zero, suc, Bool, true, false, if◌then◌else◌, List, [], ◌∷◌}
use Rattle.std.proofs.Common.{◌++◌, refl, ◌∙◌, ap, Some}
use Rattle.std.proofs.lemmas.Slice.Eq.{bytes_eq-Decides}
use Rattle.std.specs.Prelude.{slice_get}
use Rattle.std.specs.Str.{bytes_eq}
use Rattle.esc_form.specs.Laws.{ReadingsStay, TablesAreNumbered}

abbrev first_of : List (List ℕ) → List ℕ → ℕ
first_of [] text = 0
first_of (row ∷ rows) text = if bytes_eq row text then 0 else suc (first_of rows text)

finds_at : (row : List ℕ) (rows : List (List ℕ)) (text : List ℕ) (i : ℕ) (b : Bool)
    → bytes_eq row text ≡ b → slice_get (row ∷ rows) i ≡ Some text
    → ((j : ℕ) → slice_get rows j ≡ Some text → slice_get rows (first_of rows text) ≡ Some text)
    → slice_get (row ∷ rows) (if b then 0 else suc (first_of rows text)) ≡ Some text
finds_at row rows text i true h e rest = ap Some ((bytes_eq-Decides row text).0 h)
finds_at row rows text zero false h e rest = let same : bytes_eq row text ≡ true =
    (bytes_eq-Decides row text).1 (cc) in cc
finds_at row rows text (suc i) false h e rest = rest i e

finds : (names : List (List ℕ)) (text : List ℕ) (i : ℕ) → slice_get names i ≡ Some text
    → slice_get names (first_of names text) ≡ Some text
finds [] text i e = cc
finds (row ∷ rows) text i e =
    finds_at row rows text i (bytes_eq row text) refl e (λ j f. finds rows text j f)

pub tables_are_numbered : TablesAreNumbered
tables_are_numbered names distinct =
    (first_of names, λ i text e. distinct (first_of names text) i text (finds names text i e) e)

kept : (xs ys : List (List ℕ)) (i : ℕ) (x : List ℕ) → slice_get xs i ≡ Some x
    → slice_get (xs ++ ys) i ≡ Some x
kept [] ys i x e = cc
kept (y ∷ xs) ys zero x e = e
kept (y ∷ xs) ys (suc i) x e = kept xs ys i x e

pub readings_stay : ReadingsStay
readings_stay before after number grown all i text e =
    all i text (ap (λ l. slice_get l i) grown.is ∙ kept before grown.more i text e)
