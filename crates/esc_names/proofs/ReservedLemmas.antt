-- The reserved words differ.
use Rattle.std.proofs.Common.{◌≡◌, ℕ, zero, suc, List, [], ◌∷◌, Bool, true, false, cond, refl, sym}
use Rattle.std.proofs.Common.{◌∙◌, ap, Some}
use Rattle.std.proofs.lemmas.Map.Keys.{any_passes_from_place}
use Rattle.std.proofs.lemmas.Slice.Eq.{bytes_eq-Decides}
use Rattle.std.specs.List.{list_any}
use Rattle.std.specs.Str.{bytes_eq}
use Rattle.std.specs.Prelude.{slice_get}
use Rattle.esc_names.specs.Reserved.{spellings, word_table}
use Rattle.esc_names.specs.Rows.{HasDistinctRows}

-- no row is a later one
abbrev pub differ : List (List ℕ) → Bool
differ [] = true
differ (row ∷ rows) = cond (list_any (bytes_eq row) rows) false (differ rows)

split : (a b : Bool) → cond a false b ≡ true → (a ≡ false) × (b ≡ true)
split true b h = cc
split false b h = (refl, h)

later : (row : List ℕ) (rows : List (List ℕ)) (j : ℕ)
    → list_any (bytes_eq row) rows ≡ false → slice_get rows j ≡ Some row → ⊥
later row rows j none at =
    let any =
    any_passes_from_place (bytes_eq row) rows j row at ((bytes_eq-Decides row row).1 refl) in cc

pub distinct_rows : (rows : List (List ℕ)) → differ rows ≡ true → HasDistinctRows rows
distinct_rows [] h i j text p q = cc
distinct_rows (row ∷ rows) h zero zero text p q = refl
distinct_rows (row ∷ rows) h zero (suc j) text p q =
    absurd (later row rows j (split (list_any (bytes_eq row) rows) (differ rows) h).0 (q ∙ sym p))
distinct_rows (row ∷ rows) h (suc i) zero text p q =
    absurd (later row rows i (split (list_any (bytes_eq row) rows) (differ rows) h).0 (p ∙ sym q))
distinct_rows (row ∷ rows) h (suc i) (suc j) text p q =
    ap suc
    (distinct_rows rows (split (list_any (bytes_eq row) rows) (differ rows) h).1 i j text p q)

pub reserved_distinct : HasDistinctRows (spellings word_table)
reserved_distinct = distinct_rows (spellings word_table) refl
