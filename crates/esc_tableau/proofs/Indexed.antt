-- Noted places are right: they tell where an unknown stands, and stay right where rows and columns
-- change.
use Rattle.std.proofs.Common.{◌≡◌, ◌⊎◌, inl, inr, ℕ, ◌+◌, ◌-◌, ◌<◌, ◌≤◌, Bool, cond, nat_lt, List, [], ◌∷◌, ◌++◌, length, map, set, get_or, refl, sym, ap, ◌∙◌, subst, arith, length-set}
use Rattle.std.specs.List.{count_by, position_or_len, remove}
use Rattle.std.proofs.lemmas.Bool.{cases_eq, cases_lt, cond-true, cond-false, eq-eqb, false_from_ne_true, lt-ltb, le-ltb}
use Rattle.std.proofs.lemmas.List.Sums.{position_or_len_is}
use Rattle.std.proofs.lemmas.List.{get_or-map, get_or-set_other, get_or-set_same, get_or_append_left, get_or_past, get_or_push, length-map, length_push, set_past}
use Rattle.std.proofs.lemmas.List.Edits.{get_or-remove_above, get_or-remove_below, length-remove}
use Rattle.esc_tableau.specs.IndexInside.{IsIndexed, StandsAt, shifted}
use Rattle.esc_tableau.specs.Table.{IsTable, Table, column_of, holds, nobody, row_of}
use Rattle.esc_tableau.specs.declared.index.Place.{Place}
use Rattle.esc_tableau.specs.declared.index.Place.TheVariants.{Row, Column, Unnoted}
use Rattle.esc_tableau.specs.declared.owner.Owner.{Owner}
use Rattle.esc_tableau.proofs.Counting.{count_at}
use Rattle.esc_tableau.proofs.Places.{at_most_one, column_of-column, row_of-owner}

-- ---- by the kinds of places

-- the unknown stands there, if anywhere is noted
abbrev pub IsRight : List Owner → List Owner → ℕ → Place → Type 0
IsRight owners columns u (Row r) = StandsAt owners r u
IsRight owners columns u (Column c) = StandsAt columns c u
IsRight owners columns u Unnoted = Unit {0}

abbrev pub AreRight : List Owner → List Owner → List Place → Type 0
AreRight owners columns places = (u : ℕ) → IsRight owners columns u (get_or places u Unnoted)

pub rights : (os cs : List Owner) (places : List Place) → IsIndexed os cs places
    → AreRight os cs places
rights os cs places ok u = go (get_or places u Unnoted) refl
  where
    go : (p : Place) → get_or places u Unnoted ≡ p → IsRight os cs u p
    go (Row r) e = ok.0 u r e
    go (Column c) e = ok.1 u c e
    go Unnoted e = tt

pub indexed : (os cs : List Owner) (places : List Place) → AreRight os cs places
    → IsIndexed os cs places
indexed os cs places right = (
  λ u r e. subst (IsRight os cs u) e (right u),
  λ u c e. subst (IsRight os cs u) e (right u),
)

pub indexed_same : {os ns cs ds : List Owner} {ps qs : List Place} → ns ≡ os → ds ≡ cs → qs ≡ ps
    → IsIndexed os cs ps → IsIndexed ns ds qs
indexed_same {os} {ns} {cs} {ds} {ps} {qs} rows columns places ok =
    subst (λ (xs : List Owner). IsIndexed xs ds qs) (sym rows)
    (subst (λ (xs : List Owner). IsIndexed os xs qs) (sym columns)
    (subst (IsIndexed os cs) (sym places) ok))

-- ---- what a noted place tells

nowhere : {X : Type 0} (p : X → Bool) (xs : List X) (d : X) → count_by p xs ≡ 0
    → position_or_len p xs ≡ length xs
nowhere p xs d none = position_or_len_is p xs (length xs) d (omega arith)
    (λ k below. false_from_ne_true (p (get_or xs k d))
    (λ e. absurd (omega (arith, none, count_at p xs k d below e))))
    (λ h. absurd (omega arith))

module _ (t : Table) (ok : IsTable t) (u : ℕ) where
  pub row_noted : (r : ℕ) → IsRight t.owners t.columns u (Row r) → row_of t u ≡ r
  row_noted r right = ap (row_of t) (sym right.1) ∙ row_of-owner t ok r right.0

  pub column_noted : (c : ℕ) → IsRight t.owners t.columns u (Column c) → column_of t u ≡ c
  column_noted c right = ap (column_of t) (sym right.1) ∙ column_of-column t ok c right.0

  pub no_row_noted : (c : ℕ) → IsRight t.owners t.columns u (Column c)
      → row_of t u ≡ length t.owners
  no_row_noted c right = nowhere (holds u) t.owners nobody (omega (
    arith,
    at_most_one t ok u,
    count_at (holds u) t.columns c nobody right.0 (eq-eqb _ u right.1),
  ))

  pub no_column_noted : (r : ℕ) → IsRight t.owners t.columns u (Row r)
      → column_of t u ≡ length t.columns
  no_column_noted r right = nowhere (holds u) t.columns nobody (omega (
    arith,
    at_most_one t ok u,
    count_at (holds u) t.owners r nobody right.0 (eq-eqb _ u right.1),
  ))

-- ---- one place more

module _ (owners columns : List Owner) (places : List Place)
    (ok : IsIndexed owners columns places) where
  right_noted : (u : ℕ) (p : Place) → IsRight owners columns u p
      → AreRight owners columns (set places u p)
  right_noted u p right w = go (cases_eq w u) (cases_lt u (length places))
    where
      go : (w ≡ u) ⊎ (w ≡ u → ⊥) → (u < length places) ⊎ (length places ≤ u)
          → IsRight owners columns w (get_or (set places u p) w Unnoted)
      go same (inr past) = subst (λ ps. IsRight owners columns w (get_or ps w Unnoted))
          (sym (set_past places u p past)) (rights owners columns places ok w)
      go (inl same) (inl inside) = subst (λ (k : ℕ). IsRight owners columns k
          (get_or (set places u p) k Unnoted)) (sym same)
          (subst (IsRight owners columns u) (sym (get_or-set_same places u p Unnoted inside))
          right)
      go (inr other) (inl inside) = subst (IsRight owners columns w)
          (sym (get_or-set_other places u w p Unnoted other))
          (rights owners columns places ok w)

  pub indexed_noted : (u : ℕ) (p : Place) → IsRight owners columns u p
      → IsIndexed owners columns (set places u p)
  indexed_noted u p right = indexed owners columns (set places u p) (right_noted u p right)

  pub indexed_alike : (others : List Place)
      → ((u : ℕ) → get_or others u Unnoted ≡ get_or places u Unnoted)
      → IsIndexed owners columns others
  indexed_alike others same = indexed owners columns others (λ u. subst (IsRight owners columns u)
      (sym (same u)) (rights owners columns places ok u))

-- an index that has no places
pub indexed_nowhere : (owners columns : List Owner) (places : List Place)
    → ((u : ℕ) → get_or places u Unnoted ≡ Unnoted) → IsIndexed owners columns places
indexed_nowhere owners columns places none = indexed owners columns places
    (λ u. subst (IsRight owners columns u) (sym (none u)) tt)

-- ---- owners that stand where they stood

abbrev Keeps : List Owner → List Owner → Type 0
Keeps os ns = (k : ℕ) → k < length os → (k < length ns)
    × ((get_or ns k nobody).unknown ≡ (get_or os k nobody).unknown)

keeps_all : (os : List Owner) → Keeps os os
keeps_all os k h = (h, refl)

keeps_more : (os : List Owner) (o : Owner) → Keeps os (os ++ o ∷ [])
keeps_more os o k h = (
  omega (arith, h, length_push os o),
  ap (λ (p : Owner). p.unknown) (get_or_append_left os (o ∷ []) nobody k h),
)

pub indexed_kept : (os cs ns ds : List Owner) (places : List Place) → Keeps os ns → Keeps cs ds
    → IsIndexed os cs places → IsIndexed ns ds places
indexed_kept os cs ns ds places rows columns ok = indexed ns ds places
    (λ u. go u (get_or places u Unnoted) (rights os cs places ok u))
  where
    go : (u : ℕ) (p : Place) → IsRight os cs u p → IsRight ns ds u p
    go u (Row r) right = let kept = rows r right.0 in (kept.0, kept.1 ∙ right.1)
    go u (Column c) right = let kept = columns c right.0 in (kept.0, kept.1 ∙ right.1)
    go u Unnoted right = tt

pub indexed_new_row : (os cs : List Owner) (places : List Place) (o : Owner)
    → IsIndexed os cs places → IsIndexed (os ++ o ∷ []) cs
    (set places o.unknown (Row (length os)))
indexed_new_row os cs places o ok = indexed_noted (os ++ o ∷ []) cs places
    (indexed_kept os cs (os ++ o ∷ []) cs places (keeps_more os o) (keeps_all cs) ok)
    o.unknown (Row (length os)) (
      omega (arith, length_push os o),
      ap (λ (p : Owner). p.unknown)
          (get_or_push os o nobody (length os) refl),
    )

pub indexed_new_column : (os cs : List Owner) (places : List Place) (o : Owner)
    → IsIndexed os cs places → IsIndexed os (cs ++ o ∷ [])
    (set places o.unknown (Column (length cs)))
indexed_new_column os cs places o ok = indexed_noted os (cs ++ o ∷ []) places
    (indexed_kept os cs os (cs ++ o ∷ []) places (keeps_all os) (keeps_more cs o) ok)
    o.unknown (Column (length cs)) (
      omega (arith, length_push cs o),
      ap (λ (p : Owner). p.unknown)
          (get_or_push cs o nobody (length cs) refl),
    )

-- a mark where the unknown stands
pub keeps_mark : (os : List Owner) (u i : ℕ) (b : Bool)
    → (i < length os → (get_or os i nobody).unknown ≡ u)
    → Keeps os (set os i (record { unknown = u; restricted = b }))
keeps_mark os u i b there k h = (
  omega (arith, h, length-set os i (record { unknown = u; restricted = b })),
  go (cases_eq k i),
)
  where
    go : (k ≡ i) ⊎ (k ≡ i → ⊥) → (get_or (set os i (record { unknown = u; restricted = b })) k
        nobody).unknown ≡ (get_or os k nobody).unknown
    go (inl same) = subst (λ (j : ℕ). j < length os → (get_or (set os i
        (record { unknown = u; restricted = b })) j nobody).unknown
        ≡ (get_or os j nobody).unknown) (sym same)
        (λ inside. ap (λ (p : Owner). p.unknown) (get_or-set_same os i
        (record { unknown = u; restricted = b }) nobody inside) ∙ sym (there inside)) h
    go (inr other) = ap (λ (p : Owner). p.unknown) (get_or-set_other os i k
        (record { unknown = u; restricted = b }) nobody other)

-- ---- an owner of a row and one of a column change places

module _ (os cs : List Owner) (places : List Place) (r c : ℕ) (row : r < length os)
    (column : c < length cs) (ok : IsIndexed os cs places) where
  abbrev o : Owner
  o = get_or os r nobody

  abbrev d : Owner
  d = get_or cs c nobody

  abbrev swapped : List Place
  swapped = set (set places d.unknown (Row r)) o.unknown (Column c)

  right_swapped : AreRight (set os r d) (set cs c o) swapped
  right_swapped w = go (cases_lt w (length places)) (cases_eq w o.unknown)
      (cases_eq w d.unknown)
    where
      long : length swapped ≡ length places
      long = length-set (set places d.unknown (Row r)) o.unknown (Column c)
          ∙ length-set places d.unknown (Row r)

      kept : (w ≡ o.unknown → ⊥) → (w ≡ d.unknown → ⊥) → get_or swapped w Unnoted
          ≡ get_or places w Unnoted
      kept not_o not_d = get_or-set_other (set places d.unknown (Row r)) o.unknown w (Column c)
          Unnoted not_o ∙ get_or-set_other places d.unknown w (Row r) Unnoted not_d

      old : (w ≡ o.unknown → ⊥) → (w ≡ d.unknown → ⊥) → (p : Place) → IsRight os cs w p
          → IsRight (set os r d) (set cs c o) w p
      old not_o not_d (Row k) right = (
        omega (arith, right.0, length-set os r d),
        ap (λ (p : Owner). p.unknown) (get_or-set_other os r k d nobody
            (λ same. not_o (sym right.1
            ∙ ap (λ (j : ℕ). (get_or os j nobody).unknown) same))) ∙ right.1,
      )
      old not_o not_d (Column k) right = (
        omega (arith, right.0, length-set cs c o),
        ap (λ (p : Owner). p.unknown) (get_or-set_other cs c k o nobody
            (λ same. not_d (sym right.1
            ∙ ap (λ (j : ℕ). (get_or cs j nobody).unknown) same))) ∙ right.1,
      )
      old not_o not_d Unnoted right = tt

      go : (w < length places) ⊎ (length places ≤ w) → (w ≡ o.unknown) ⊎ (w ≡ o.unknown → ⊥)
          → (w ≡ d.unknown) ⊎ (w ≡ d.unknown → ⊥)
          → IsRight (set os r d) (set cs c o) w (get_or swapped w Unnoted)
      go (inr past) is_owner is_entrant = subst (IsRight (set os r d) (set cs c o) w)
          (sym (get_or_past swapped w Unnoted (omega (arith, past, long)))) tt
      go (inl inside) (inl same) is_entrant = subst (IsRight (set os r d) (set cs c o) w)
          (sym (ap (λ (k : ℕ). get_or swapped k Unnoted) same
          ∙ get_or-set_same (set places d.unknown (Row r)) o.unknown (Column c) Unnoted
          (omega (arith, inside, same, length-set places d.unknown (Row r))))) (
            omega (arith, column, length-set cs c o),
            ap (λ (p : Owner). p.unknown) (get_or-set_same cs c o nobody column) ∙ sym same,
          )
      go (inl inside) (inr other) (inl same) = subst (IsRight (set os r d) (set cs c o) w)
          (sym (get_or-set_other (set places d.unknown (Row r)) o.unknown w (Column c) Unnoted
          other ∙ ap (λ (k : ℕ). get_or (set places d.unknown (Row r)) k Unnoted) same
          ∙ get_or-set_same places d.unknown (Row r) Unnoted (omega (arith, inside, same)))) (
            omega (arith, row, length-set os r d),
            ap (λ (p : Owner). p.unknown) (get_or-set_same os r d nobody row) ∙ sym same,
          )
      go (inl inside) (inr not_o) (inr not_d) = subst (IsRight (set os r d) (set cs c o) w)
          (sym (kept not_o not_d)) (old not_o not_d (get_or places w Unnoted)
          (rights os cs places ok w))

  pub indexed_swapped : IsIndexed (set os r d) (set cs c o) swapped
  indexed_swapped = indexed (set os r d) (set cs c o) swapped right_swapped

-- ---- a row is removed

module _ (os cs : List Owner) (places : List Place) (r : ℕ) (row : r < length os)
    (ok : IsIndexed os cs places) where
  shifted_at : (u : ℕ) → get_or (map (shifted r) places) u Unnoted
      ≡ shifted r (get_or places u Unnoted)
  shifted_at u = go (cases_lt u (length places))
    where
      go : (u < length places) ⊎ (length places ≤ u) → get_or (map (shifted r) places) u Unnoted
          ≡ shifted r (get_or places u Unnoted)
      go (inl inside) = get_or-map (shifted r) places u Unnoted Unnoted inside
      go (inr past) = get_or_past (map (shifted r) places) u Unnoted
          (omega (arith, past, length-map places (shifted r)))
          ∙ ap (shifted r) (sym (get_or_past places u Unnoted past))

  right_then : (u : ℕ) (p : Place) → IsRight os cs u p → IsRight (remove os r) cs u (shifted r p)
  right_then u (Column c) right = right
  right_then u Unnoted right = tt
  right_then u (Row k) right = go (cases_lt k r) (cases_lt r k)
    where
      shorter : length (remove os r) + 1 ≡ length os
      shorter = length-remove os r row

      go : (k < r) ⊎ (r ≤ k) → (r < k) ⊎ (k ≤ r)
          → IsRight (remove os r) cs u (shifted r (Row k))
      go (inl below) order = subst (IsRight (remove os r) cs u)
          (sym (cond-true (nat_lt k r) (Row k) (cond (nat_lt r k) (Row (k - 1)) Unnoted)
          (lt-ltb k r below))) (
            omega (arith, below, row, shorter),
            ap (λ (p : Owner). p.unknown) (get_or-remove_below os r nobody k below row) ∙ right.1,
          )
      go (inr above) (inl over) = subst (IsRight (remove os r) cs u)
          (sym (cond-false (nat_lt k r) (Row k) (cond (nat_lt r k) (Row (k - 1)) Unnoted)
          (le-ltb k r above) ∙ cond-true (nat_lt r k) (Row (k - 1)) Unnoted (lt-ltb r k over))) (
            omega (arith, over, right.0, shorter),
            ap (λ (p : Owner). p.unknown) (get_or-remove_above os r nobody (k - 1)
                (omega (arith, over)) row) ∙ ap (λ (j : ℕ). (get_or os j nobody).unknown) back
                ∙ right.1,
          )
        where
          back : k - 1 + 1 ≡ k
          back = omega (arith, over)
      go (inr above) (inr under) = subst (IsRight (remove os r) cs u)
          (sym (cond-false (nat_lt k r) (Row k) (cond (nat_lt r k) (Row (k - 1)) Unnoted)
          (le-ltb k r above) ∙ cond-false (nat_lt r k) (Row (k - 1)) Unnoted
          (le-ltb r k under))) tt

  pub indexed_removed : IsIndexed (remove os r) cs (map (shifted r) places)
  indexed_removed = indexed (remove os r) cs (map (shifted r) places)
      (λ u. subst (IsRight (remove os r) cs u) (sym (shifted_at u))
      (right_then u (get_or places u Unnoted) (rights os cs places ok u)))
