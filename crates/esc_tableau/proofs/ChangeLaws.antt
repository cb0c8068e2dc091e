-- What is left of a table by the calls that make, drop and mark unknowns is a table.
use Rattle.std.proofs.Common.{◌≡◌, ◌⊎◌, inl, inr, ℕ, suc, ◌+◌, ◌-◌, ◌<◌, ◌≤◌, Bool, true, false, ◌==◌, List, [], ◌∷◌, ◌++◌, map, length, get_or, take, drop, nat_lt, Result, Ok, Err, refl, sym, ap, ap₂, ◌∙◌, subst, arith, length-set}
use Rattle.std.specs.List.{count_by, remove, All}
use Rattle.std.proofs.lemmas.Bool.{cases_lt, cases_order, lt-ltb, le-ltb, eq-eqb, ne_eqb, cond-true, cond-false, eqb-true}
use Rattle.std.proofs.lemmas.List.{length-map, get_or-map, length_push, get_or_push, get_or_append_left, length-replicate, map-append, take-map, drop-map}
use Rattle.std.proofs.lemmas.List.Edits.{length-remove, get_or-remove_below, get_or-remove_above}
use Rattle.std.proofs.lemmas.List.Elements.{All-head, All-tail}
use Rattle.esc_frac.specs.Rational.{ℚ, zero_ℚ}
use Rattle.esc_rows.proofs.RowLemmas.{length-plus_multiple}
use Rattle.esc_tableau.specs.Changes.{free_owner, with_column, with_row, without_row, marked, with_mark, Sum, sum, start_sum, plus_owner, plus_part, plus_parts, OwnerFits, PartFits, RowEnds}
use Rattle.std.specs.Result.{IfOk, IsOk, OnOk, OnErr, OkIff}
use Rattle.std.specs.declared.alloc.AllocError.{AllocError}
use Rattle.esc_tableau.specs.declared.answers.RowStop.{RowStop}
use Rattle.esc_tableau.specs.declared.answers.RowStop.TheVariants.{Spill, Memory}
use Rattle.esc_tableau.specs.Table.{Table, IsTable, OwnsRow, OwnsColumn, nobody, holds, size, owner, row_entries, row_of, column_of, place_of}
use Rattle.esc_tableau.specs.declared.changing.Part.{Part}
use Rattle.esc_tableau.specs.declared.owner.Owner.{Owner}
use Rattle.esc_tableau.proofs.Counting.{mark, count_by-push, count_by-remove, count_by-set_same, passes_at_first}
use Rattle.esc_tableau.proofs.Places.{owns_one, owner-row_of}

-- the numbers below n + 1 are those below n, and n
marks_more : (u n : ℕ) → mark (nat_lt u n) + mark (n == u) ≡ mark (nat_lt u (n + 1))
marks_more u n = go (cases_order u n)
  where
    go : (u ≡ n) ⊎ ((u < n) ⊎ (n < u)) → mark (nat_lt u n) + mark (n == u) ≡ mark (nat_lt u (n + 1))
    go (inl e) =
        ap₂ (λ a b. mark a + mark b) (le-ltb u n (omega arith)) (eq-eqb n u (sym e))
        ∙ sym (ap mark (lt-ltb u (n + 1) (omega arith)))
    go (inr (inl h)) =
        ap₂ (λ a b. mark a + mark b) (lt-ltb u n h) (ne_eqb n u (λ e. omega arith))
        ∙ sym (ap mark (lt-ltb u (n + 1) (omega arith)))
    go (inr (inr h)) =
        ap₂ (λ a b. mark a + mark b) (le-ltb u n (omega arith)) (ne_eqb n u (λ e. omega arith))
        ∙ sym (ap mark (le-ltb u (n + 1) (omega arith)))

pub IsTable-with_column : (t : Table) → IsTable t → IsTable (with_column t)
IsTable-with_column t ok = record {
  rows = length-map t.entries wider ∙ ok.rows;
  constants = ok.constants;
  width = λ r row.
      ap length (get_or-map wider t.entries r [] [] (omega (arith, ok.rows)))
      ∙ length_push (row_entries t r) zero_ℚ ∙ ap (λ (n : ℕ). n + 1) (ok.width r row)
      ∙ sym (length_push t.columns (free_owner (size t)));
  numbered = λ u.
      let last = marks_more u (size t) in
      let more : size (with_column t) ≡ size t + 1 = omega
      (arith, length_push t.columns (free_owner (size t))) in
      omega (arith, count_by-push (holds u) t.columns (free_owner (size t)), ok.numbered u, last)
      ∙ sym (ap (λ (n : ℕ). mark (nat_lt u n)) more);
}
  where
    wider : List ℚ → List ℚ
    wider es = es ++ zero_ℚ ∷ []

pub IsTable-with_row : (t : Table) (s : Sum) → IsTable t → length s.entries ≡ length t.columns
    → IsTable (with_row t s)
IsTable-with_row t s ok wide = record {
  rows = length_push t.entries s.entries ∙ ap (λ (n : ℕ). n + 1) ok.rows
      ∙ sym (length_push t.owners (free_owner (size t)));
  constants = length_push t.constants s.constant ∙ ap (λ (n : ℕ). n + 1) ok.constants
      ∙ sym (length_push t.owners (free_owner (size t)));
  width = λ r row. widths r (cases_lt r (length t.owners))
      (omega (arith, row, length_push t.owners (free_owner (size t))));
  numbered = λ u.
      let last = marks_more u (size t) in
      let more : size (with_row t s) ≡ size t + 1 = omega
      (arith, length_push t.owners (free_owner (size t))) in
      omega (arith, count_by-push (holds u) t.owners (free_owner (size t)), ok.numbered u, last)
      ∙ sym (ap (λ (n : ℕ). mark (nat_lt u n)) more);
}
  where
    widths : (r : ℕ) → (r < length t.owners) ⊎ (length t.owners ≤ r) → r < length t.owners + 1
        → length (row_entries (with_row t s) r) ≡ length t.columns
    widths r (inl h) below = ap length (get_or_append_left t.entries (s.entries ∷ []) [] r
        (omega (arith, ok.rows))) ∙ ok.width r h
    widths r (inr h) below = ap length (get_or_push t.entries s.entries [] r
        (omega (arith, ok.rows))) ∙ wide

pub IsTable-without_row : (t : Table) → IsTable t → OwnsRow t (size t - 1)
    → IsTable (without_row t (row_of t (size t - 1)))
IsTable-without_row t ok owns = at (row_of t (size t - 1)) owns
    (owner-row_of t ok (size t - 1) owns)
  where
    at : (r : ℕ) → r < length t.owners → owner t r ≡ size t - 1 → IsTable (without_row t r)
    at r row is = record {
      rows = omega (
        arith,
        length-remove t.entries r (omega (arith, ok.rows)),
        length-remove
            t.owners r row,
        ok.rows,
      );
      constants = omega (
        arith,
        length-remove t.constants r (omega (arith, ok.constants)),
        length-remove t.owners r row,
        ok.constants,
      );
      width = λ i inside. widths i (cases_lt i r) (omega
          (arith, inside, length-remove t.owners r row));
      numbered = λ u.
          let last = marks_more u (size t - 1) in
          let whole : size t - 1 + 1 ≡ size t = omega arith in
          let here = ap (λ (n : ℕ). mark (n == u)) is in
          let below = ap (λ (n : ℕ). mark (nat_lt u n)) whole in
          let less : size (without_row t r) ≡ size t - 1 = omega
          (arith, length-remove t.owners r row) in
          omega (
            arith,
            count_by-remove (holds u) t.owners r nobody row,
            ok.numbered u,
            last,
            here,
            below,
          ) ∙ sym (ap (λ (n : ℕ). mark (nat_lt u n)) less);
    }
      where
        widths : (i : ℕ) → (i < r) ⊎ (r ≤ i) → i + 1 < length t.owners
            → length (get_or (remove t.entries r) i []) ≡ length t.columns
        widths i (inl h) below = ap length (get_or-remove_below t.entries r [] i h
            (omega (arith, ok.rows))) ∙ ok.width i (omega arith)
        widths i (inr h) below = ap length (get_or-remove_above t.entries r [] i h
            (omega (arith, ok.rows))) ∙ ok.width (i + 1) (omega arith)

pub IsTable-with_mark : (t : Table) (u : ℕ) (b : Bool) → IsTable t → IsTable (with_mark t u b)
IsTable-with_mark t u b ok = record {
  rows = ok.rows ∙ sym owners;
  constants = ok.constants ∙ sym owners;
  width = λ r row. ok.width r (omega (
    arith,
    row,
    length-set t.owners (row_of t u)
        (record { unknown = u; restricted = b }),
  )) ∙ sym columns;
  numbered = λ w. ap₂ (λ m n. m + n) (same t.owners w) (same t.columns w) ∙ ok.numbered w
      ∙ ap₂ (λ (m n : ℕ). mark (nat_lt w (m + n))) (sym owners) (sym columns);
}
  where
    owners : length (with_mark t u b).owners ≡ length t.owners
    owners = length-set t.owners (row_of t u) (record { unknown = u; restricted = b })

    columns : length (with_mark t u b).columns ≡ length t.columns
    columns = length-set t.columns (column_of t u) (record { unknown = u; restricted = b })

    same : (os : List Owner) (w : ℕ) → count_by (holds w) (marked os u b (place_of os u))
        ≡ count_by (holds w) os
    same os w =
        count_by-set_same (holds w) os (place_of os u)
        (record { unknown = u; restricted = b }) nobody
        (λ inside. ap (λ (k : ℕ). k == w) (sym (eqb-true _ u
        (passes_at_first (holds u) os nobody inside))))

-- ---- the width of a sum

pub plus_part_wide : (t : Table) (s : Sum) (p : Part) → IsTable t → p.unknown < size t
    → length s.entries ≡ length t.columns → length (plus_part t s p).entries ≡ length t.columns
plus_part_wide t s p ok below wide = go (nat_lt (column_of t p.unknown) (length t.columns)) refl
  where
    go : (b : Bool) → nat_lt (column_of t p.unknown) (length t.columns) ≡ b
        → length (plus_part t s p).entries ≡ length t.columns
    go true e = ap (λ (x : Sum). length x.entries) (cond-true _ _ _ e)
        ∙ length-set s.entries (column_of t p.unknown) _ ∙ wide
    go false e = ap (λ (x : Sum). length x.entries) (cond-false _ _ _ e)
        ∙ length-plus_multiple p.factor s.entries (row_entries t (row_of t p.unknown)) (wide
        ∙ sym (ok.width (row_of t p.unknown) (row (owns_one t ok p.unknown below)))) ∙ wide
      where
        row : OwnsRow t p.unknown ⊎ OwnsColumn t p.unknown → row_of t p.unknown < length t.owners
        row (inl h) = h
        row (inr h) = let no = lt-ltb _ _ h in cc

pub plus_parts_wide : (t : Table) (s : Sum) (ps : List Part) → IsTable t
    → All (λ p. p.unknown < size t) ps → length s.entries ≡ length t.columns
    → length (plus_parts t s ps).entries ≡ length t.columns
plus_parts_wide t s [] ok below wide = wide
plus_parts_wide t s (p ∷ ps) ok below wide =
    plus_parts_wide t (plus_part t s p) ps ok (All-tail (λ q. q.unknown < size t) p ps below)
    (plus_part_wide t s p ok (All-head (λ q. q.unknown < size t) p ps below) wide)

-- ---- the steps of the code

module _ (t : Table) (es : List ℚ) (k : ℚ) (p : Part) (past : length t.columns
    ≤ column_of t p.unknown) where
  pub PartFits-owner : OwnerFits t (sum es k) p.factor (row_of t p.unknown)
      → PartFits t (sum es k) p
  PartFits-owner h = record { column = λ o. absurd (omega arith); owner = λ _. h }

  pub plus_part-owner : plus_part t (sum es k) p ≡ plus_owner t (sum es k) p.factor
      (row_of t p.unknown)
  plus_part-owner = cond-false (nat_lt (column_of t p.unknown) (length t.columns)) _ _
      (le-ltb (column_of t p.unknown) (length t.columns) past)

pub map-remove : {A B : Type 0} (f : A → B) (xs : List A) (i : ℕ) → map f (remove xs i)
    ≡ remove (map f xs) i
map-remove f xs i = map-append f (take i xs) (drop (suc i) xs)
    ∙ ap₂ (λ x y. x ++ y) (sym (take-map f i xs)) (sym (drop-map f (suc i) xs))

pub row_ends_table : (old new : Table) (ps : List Part) (k : ℚ) (r : Result ℕ RowStop) → IsTable old
    → All (λ p. p.unknown < size old) ps → RowEnds old new ps k r → IsTable new
row_ends_table old new ps k (Ok u) ok below h =
    subst IsTable (sym h.2) (IsTable-with_row old (plus_parts old (start_sum old k) ps) ok
    (plus_parts_wide old (start_sum old k) ps ok below
    (length-replicate (length old.columns) zero_ℚ)))
row_ends_table old new ps k (Err Spill) ok below h = subst IsTable (sym h.0) ok
row_ends_table old new ps k (Err Memory) ok below h = subst IsTable (sym h) ok

pub column_ends_table : (old new : Table) (r : Result ℕ AllocError) → IsTable old
    → OnOk r (new ≡ with_column old) → OnErr r (new ≡ old) → IsTable new
column_ends_table old new (Ok u) ok h k = subst IsTable (sym h) (IsTable-with_column old ok)
column_ends_table old new (Err e) ok h k = subst IsTable (sym k) ok

-- ---- answers by their cases

pub OkIff-ok : {V E : Type 0} (r : Result V E) (P : Type 0) (v : V) → OkIff r P v → IsOk r → P
OkIff-ok (Ok x) P v h e = h.0
OkIff-ok (Err x) P v h e = cc

pub OkIff-fits : {V E : Type 0} (r : Result V E) (P : Type 0) (v : V) → OkIff r P v → P → IsOk r
OkIff-fits (Ok x) P v h p = refl
OkIff-fits (Err x) P v h p = absurd (h p)

pub OkIff-value : {V E : Type 0} (r : Result V E) (P : Type 0) (v : V) → OkIff r P v
    → IfOk r (λ x. x ≡ v)
OkIff-value (Ok x) P v h = h.1
OkIff-value (Err x) P v h = tt

pub IfOk-weaker : {V E : Type 0} (P Q : V → Type 0) → ((x : V) → P x → Q x) → (r : Result V E)
    → IfOk r P → IfOk r Q
IfOk-weaker P Q f (Ok x) h = f x h
IfOk-weaker P Q f (Err x) h = tt
