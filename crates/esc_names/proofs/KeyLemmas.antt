-- How the place of a reserved word leads to what it says.
use Rattle.std.proofs.Common.{◌≡◌, ℕ, zero, suc, Bool, true, false, if◌then◌else◌, List, [], ◌∷◌}
use Rattle.std.proofs.Common.{refl, sym, ◌∙◌, ap, Option, Some, None, option_map}
use Rattle.std.proofs.lemmas.Slice.Eq.{bytes_eq-Decides}
use Rattle.std.specs.Prelude.{slice_get}
use Rattle.std.specs.Str.{bytes_eq}
use Rattle.esc_names.specs.declared.key.Key.{Key}
use Rattle.esc_names.specs.declared.words.Row.{Row}
use Rattle.esc_names.specs.declared.words.Word.{Word}
use Rattle.esc_names.specs.Reading.{IsReadAs}
use Rattle.esc_names.specs.Reserved.{key_in, spellings}

abbrev pub key_at : List Row → ℕ → Option Key
key_at rows i = option_map (λ row. row.key) (slice_get rows i)

-- a text that says something stands in a row
record Placed (rows : List Row) (text : List ℕ) (key : Key) : Type 0 where
  place : ℕ
  spelt : slice_get (spellings rows) place ≡ Some text
  says : key_at rows place ≡ Some key

found_at : (row : Row) (rows : List Row) (text : List ℕ) (key : Key) (b : Bool)
    → bytes_eq row.spelling text ≡ b
    → (if b then Some row.key else key_in rows text) ≡ Some key
    → (key_in rows text ≡ Some key → Placed rows text key) → Placed (row ∷ rows) text key
found_at row rows text key true h e rest =
    record { place = 0; spelt = ap Some ((bytes_eq-Decides row.spelling text).0 h); says = e }
found_at row rows text key false h e rest = let r = rest e in
    record { place = suc r.place; spelt = r.spelt; says = r.says }

found_row : (rows : List Row) (text : List ℕ) (key : Key) → key_in rows text ≡ Some key
    → Placed rows text key
found_row [] text key e = cc
found_row (row ∷ rows) text key e =
    found_at row rows text key (bytes_eq row.spelling text) refl e (λ f. found_row rows text key f)

none_at : (row : Row) (rows : List Row) (text : List ℕ) (b : Bool)
    → (if b then Some row.key else key_in rows text) ≡ None
    → (b ≡ true → ⊥) × (key_in rows text ≡ None)
none_at row rows text true e = cc
none_at row rows text false e = (λ f. cc, e)

no_row : (rows : List Row) (text : List ℕ) (i : ℕ) → key_in rows text ≡ None
    → slice_get (spellings rows) i ≡ Some text → ⊥
no_row [] text i e at = cc
no_row (row ∷ rows) text zero e at =
    (none_at row rows text (bytes_eq row.spelling text) e).0
    ((bytes_eq-Decides row.spelling text).1 (cc))
no_row (row ∷ rows) text (suc i) e at =
    no_row rows text i (none_at row rows text (bytes_eq row.spelling text) e).1 at

pub says_nothing : (rows : List Row) (text : List ℕ) → IsReadAs rows text None
    → None ≡ key_in rows text
says_nothing rows text reads = none (key_in rows text) refl
  where
    none : (o : Option Key) → key_in rows text ≡ o → None ≡ key_in rows text
    none None e = sym e
    none (Some key) e =
        let r = found_row rows text key e in
        let w : Word = record { 0 = r.place } in
        let clash = (reads w).1 r.spelt in cc

pub says_its_key : (rows : List Row) (text : List ℕ) (word : Word) → IsReadAs rows text (Some word)
    → key_at rows word.0 ≡ key_in rows text
says_its_key rows text word reads = some (key_in rows text) refl
  where
    some : (o : Option Key) → key_in rows text ≡ o → key_at rows word.0 ≡ key_in rows text
    some None e = absurd (no_row rows text word.0 e ((reads word).0 refl))
    some (Some key) e =
        let r = found_row rows text key e in
        let w : Word = record { 0 = r.place } in
        let same : Some word ≡ Some w = (reads w).1 r.spelt in
        let place : word.0 ≡ r.place = cc in
        ap (key_at rows) place ∙ r.says ∙ sym e
