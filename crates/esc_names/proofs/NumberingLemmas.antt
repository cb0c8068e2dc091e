-- What a set of spellings says of the table of names. Each key of the set has a text.
use Rattle.std.proofs.Common.{◌≡◌, inl, inr, ℕ, List, [], ◌∷◌, ◌++◌, map, Bool, true, false, cond}
use Rattle.std.proofs.Common.{◌||◌, if◌then◌else◌, refl, sym, ◌∙◌, ap, subst, Some, option_map}
use Rattle.std.proofs.Common.{Contains, get_or, true≢false}
use Rattle.std.proofs.lemmas.List.Quantifiers.{position-Some}
use Rattle.std.proofs.lemmas.Map.Keys.{any_passes_from_place}
use Rattle.std.proofs.lemmas.Option.{get_or_from_slice_get, slice_get-get_or, slice_get-map}
use Rattle.std.proofs.lemmas.Option.{slice_get_within}
use Rattle.std.proofs.lemmas.Slice.Eq.{bytes_eq-Decides}
use Rattle.std.specs.List.{AllByRecursion, IsDistinct, list_any, position}
use Rattle.std.specs.Prelude.{slice_get}
use Rattle.std.specs.Str.{bytes_eq}
use Rattle.indexmap.specs.IndexSet.{insert_key}
use Rattle.esc_names.specs.Numbering.{IsNumbered}
use Rattle.esc_names.specs.Rows.{HasDistinctRows}
use Rattle.esc_names.proofs.ReservedLemmas.{differ, distinct_rows}

module _ {K : Type 0} (text : K → List ℕ) where
  -- the key has this text
  abbrev pub has : List ℕ → K → Bool
  has name key = bytes_eq name (text key)

  -- the keys have one text
  abbrev pub alike : K → K → Bool
  alike left right = bytes_eq (text left) (text right)

  -- the key at a place tells the row there
  pub row_at : (keys : List K) (i : ℕ) (key : K) (name : List ℕ) → slice_get keys i ≡ Some key
      → bytes_eq name (text key) ≡ true → slice_get (map text keys) i ≡ Some name
  row_at keys i key name at e =
      slice_get-map text keys i ∙ ap (option_map text) at
      ∙ ap Some (sym ((bytes_eq-Decides name (text key)).0 e))

  -- a search for a name that stops finds its row
  pub found_row : (keys : List K) (i : ℕ) (name : List ℕ) → position (has name) keys ≡ Some i
      → slice_get (map text keys) i ≡ Some name
  found_row [] i name e = cc
  found_row (key ∷ keys) i name e =
      let s = position-Some (has name) (key ∷ keys) i key e in
      row_at (key ∷ keys) i (get_or (key ∷ keys) i key) name
      (slice_get-get_or (key ∷ keys) i key s.0) s.1

  any_row : (keys : List K) (name : List ℕ)
      → list_any (bytes_eq name) (map text keys) ≡ list_any (has name) keys
  any_row [] name = refl
  any_row (key ∷ keys) name = ap (λ b. bytes_eq name (text key) || b) (any_row keys name)

  -- a search for a name that finds no key finds no row
  pub absent_row : (keys : List K) (name : List ℕ) → list_any (has name) keys ≡ false
      → Contains (map text keys) name → ⊥
  absent_row keys name none at =
      true≢false
      (sym (any_passes_from_place (bytes_eq name) (map text keys) at.0 name
      (slice_get-get_or (map text keys) at.0 name at.1 ∙ ap Some at.2)
      ((bytes_eq-Decides name name).1 refl)) ∙ any_row keys name ∙ none)

  none_later : (name : List ℕ) (keys : List K)
      → AllByRecursion (λ key. bytes_eq name (text key) ≡ false) keys
      → list_any (bytes_eq name) (map text keys) ≡ false
  none_later name [] h = refl
  none_later name (key ∷ keys) h =
      ap (λ b. b || list_any (bytes_eq name) (map text keys)) h.0 ∙ none_later name keys h.1

  differ_keys : (keys : List K) → IsDistinct alike keys → differ (map text keys) ≡ true
  unfolding IsDistinct
  differ_keys [] h = refl
  differ_keys (key ∷ keys) h =
      ap (λ b. cond b false (differ (map text keys))) (none_later (text key) keys h.0)
      ∙ differ_keys keys h.1

  -- keys of which no two are alike have rows that differ
  pub distinct_keys : (keys : List K) → IsDistinct alike keys → HasDistinctRows (map text keys)
  distinct_keys keys h = distinct_rows (map text keys) (differ_keys keys h)

  map_push : (keys : List K) (key : K)
      → map text (keys ++ key ∷ []) ≡ map text keys ++ text key ∷ []
  map_push [] key = refl
  map_push (first ∷ keys) key = ap (λ rows. text first ∷ rows) (map_push keys key)

  -- a name that no key has becomes the last row
  pub added_row : (keys after : List K) (key : K) (name : List ℕ) → list_any (has name) keys ≡ false
      → text key ≡ name → after ≡ insert_key alike keys key
      → IsNumbered (map text keys) name (map text after)
  added_row keys after key name none e inserted =
      let absent : list_any (alike key) keys ≡ false =
      subst (λ t. list_any (has t) keys ≡ false) (sym e) none in
      inr (
        absent_row keys name none,
        ap (map text) (inserted ∙ ap (λ b. if b then keys else keys ++ key ∷ []) absent)
            ∙ map_push keys key ∙ ap (λ t. map text keys ++ t ∷ []) e,
      )

  -- a table that has the name stays
  pub kept_rows : (keys : List K) (i : ℕ) (name : List ℕ) → slice_get (map text keys) i ≡ Some name
      → IsNumbered (map text keys) name (map text keys)
  kept_rows keys i name at =
      inl (
        (
          i,
          slice_get_within (map text keys) i name at,
          get_or_from_slice_get (map text keys) i name name at,
        ),
        refl,
      )
