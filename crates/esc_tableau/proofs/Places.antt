-- Each unknown owns one row or one column, and is found there.
use Rattle.std.proofs.Common.{◌≡◌, ◌⊎◌, inl, inr, ℕ, ◌+◌, ◌<◌, ◌≤◌, true, length, get_or, refl, ◌∙◌, arith, nat_lt}
use Rattle.std.specs.List.{count_by}
use Rattle.std.proofs.lemmas.Bool.{eq-eqb, eqb-true, cases_lt, lt-ltb, le-ltb, cond-true, cond-false}
use Rattle.esc_tableau.specs.Table.{Table, IsTable, OwnsRow, OwnsColumn, nobody, size, holds, owner, column, row_of, column_of}
use Rattle.esc_tableau.specs.declared.owner.Owner.{Owner}
use Rattle.esc_tableau.proofs.Counting.{count_at, only_place, passes_at_first, no_place, has_place, mark_few}

holds_itself : (o : Owner) → holds o.unknown o ≡ true
holds_itself o = eq-eqb o.unknown o.unknown refl

module _ (t : Table) (ok : IsTable t) where
  pub at_most_one : (u : ℕ) → count_by (holds u) t.owners + count_by (holds u) t.columns ≤ 1
  at_most_one u = omega (arith, ok.numbered u, mark_few (nat_lt u (size t)))

  owner_counts : (r : ℕ) → r < length t.owners → 0 < count_by (holds (owner t r)) t.owners
  owner_counts r row = count_at (holds (owner t r)) t.owners r nobody row
      (holds_itself (get_or t.owners r nobody))

  column_counts : (c : ℕ) → c < length t.columns → 0 < count_by (holds (column t c)) t.columns
  column_counts c inside = count_at (holds (column t c)) t.columns c nobody inside
      (holds_itself (get_or t.columns c nobody))

  pub row_of-owner : (r : ℕ) → r < length t.owners → row_of t (owner t r) ≡ r
  row_of-owner r row = only_place (holds (owner t r)) t.owners r nobody row
      (holds_itself (get_or t.owners r nobody)) (omega (arith, at_most_one (owner t r)))

  pub column_of-column : (c : ℕ) → c < length t.columns → column_of t (column t c) ≡ c
  column_of-column c inside = only_place (holds (column t c)) t.columns c nobody inside
      (holds_itself (get_or t.columns c nobody)) (omega (arith, at_most_one (column t c)))

  pub owner-row_of : (u : ℕ) → OwnsRow t u → owner t (row_of t u) ≡ u
  owner-row_of u h = eqb-true _ u (passes_at_first (holds u) t.owners nobody h)

  pub column-column_of : (u : ℕ) → OwnsColumn t u → column t (column_of t u) ≡ u
  column-column_of u h = eqb-true _ u (passes_at_first (holds u) t.columns nobody h)

  -- who owns a column owns no row
  pub no_row-column : (c : ℕ) → c < length t.columns → length t.owners ≤ row_of t (column t c)
  no_row-column c inside = no_place (holds (column t c)) t.owners nobody
      (omega (arith, at_most_one (column t c), column_counts c inside))

  pub not_both_places : (u : ℕ) → OwnsRow t u → OwnsColumn t u → ⊥
  not_both_places u row inside =
      omega (
        arith,
        at_most_one u,
        count_at (holds u) t.owners (row_of t u) nobody row
            (passes_at_first (holds u) t.owners nobody row),
        count_at (holds u) t.columns
            (column_of t u) nobody inside (passes_at_first (holds u) t.columns nobody inside),
      )

  -- who owns a row or a column is one of the numbers
  pub counted_below : (u : ℕ) → 0 < count_by (holds u) t.owners + count_by (holds u) t.columns → u
      < size t
  counted_below u some = go (cases_lt u (size t))
    where
      go : (u < size t) ⊎ (size t ≤ u) → u < size t
      go (inl h) = h
      go (inr h) = let none = ok.numbered u ∙ cond-false (nat_lt u (size t)) 1 0
          (le-ltb u (size t) h) in absurd (omega (arith, none))

  pub owner_below : (r : ℕ) → r < length t.owners → owner t r < size t
  owner_below r row = counted_below (owner t r) (omega (arith, owner_counts r row))

  pub column_below : (c : ℕ) → c < length t.columns → column t c < size t
  column_below c inside = counted_below (column t c) (omega (arith, column_counts c inside))

  pub owns_one : (u : ℕ) → u < size t → OwnsRow t u ⊎ OwnsColumn t u
  owns_one u below = go (cases_lt 0 (count_by (holds u) t.owners))
    where
      one : count_by (holds u) t.owners + count_by (holds u) t.columns ≡ 1
      one = ok.numbered u ∙ cond-true (nat_lt u (size t)) 1 0 (lt-ltb u (size t) below)

      go : (0 < count_by (holds u) t.owners) ⊎ (count_by (holds u) t.owners ≤ 0) → OwnsRow t u
          ⊎ OwnsColumn t u
      go (inl h) = inl (has_place (holds u) t.owners nobody h)
      go (inr h) = inr (has_place (holds u) t.columns nobody (omega (arith, one)))

  pub row_where_no_column : (u : ℕ) → u < size t → length t.columns ≤ column_of t u → OwnsRow t u
  row_where_no_column u below past = go (owns_one u below)
    where
      go : OwnsRow t u ⊎ OwnsColumn t u → OwnsRow t u
      go (inl h) = h
      go (inr h) = absurd (omega arith)
