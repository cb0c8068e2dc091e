-- The parts of the table that a pivot leaves.
use Rattle.std.proofs.Common.{◌≡◌, ◌≢◌, ℕ, ◌+◌, ◌<◌, Bool, true, false, ◌==◌, List, [], map, length, set, get_or, refl, sym, ap, ap₂, ◌∙◌, subst, arith, eqb-true, length-set, get_or-set_other, get_or-set_same, cond, nat_lt}
use Rattle.std.specs.List.{count_by}
use Rattle.std.proofs.lemmas.Bool.{eqb-false}
use Rattle.std.proofs.lemmas.List.{length-map, get_or-map, map-set}
use Rattle.esc_frac.specs.Rational.{ℚ, zero_ℚ, ◌+ℚ◌, ◌*ℚ◌}
use Rattle.esc_rows.specs.Rows.{solved, solved_constant, eliminated, eliminated_constants}
use Rattle.esc_rows.proofs.Constants.{length-eliminated_constants, get_or-eliminated_constants}
use Rattle.esc_rows.proofs.RowLemmas.{length-solved, length-plus_multiple}
use Rattle.esc_tableau.specs.Table.{Table, IsTable, IsRestricted, nobody, unknowns, size, owner, column, entry, row_entries, row_constant, pivoted, holds, is_marked}
use Rattle.esc_tableau.specs.declared.owner.Owner.{Owner}
use Rattle.esc_tableau.proofs.Counting.{count_by-set, mark}

module _ (t : Table) (ok : IsTable t) (r c : ℕ) (row : r < length t.owners) (inside : c
    < length t.columns) where
  pub columns_are : unknowns (pivoted t r c).columns ≡ set (unknowns t.columns) c (owner t r)
  columns_are = map-set (λ o. o.unknown) t.columns c (get_or t.owners r nobody)

  pub column_is : get_or (unknowns t.columns) c 0 ≡ column t c
  column_is = get_or-map (λ o. o.unknown) t.columns c nobody 0 inside

  -- at the pivot's row
  pub whole_owner-at_row : get_or (pivoted t r c).owners r nobody ≡ get_or t.columns c nobody
  whole_owner-at_row = get_or-set_same t.owners r (get_or t.columns c nobody) nobody row

  pub owner-at_row : owner (pivoted t r c) r ≡ column t c
  owner-at_row = ap (λ o. o.unknown) whole_owner-at_row

  pub entries-at_row : row_entries (pivoted t r c) r ≡ solved (row_entries t r) c
  entries-at_row =
      let f : List ℚ → List ℚ = λ es. eliminated es c (solved (row_entries t r) c) in
      let h : r < length (map f t.entries) = omega (arith, length-map t.entries f, ok.rows) in
      get_or-set_same (map f t.entries) r (solved (row_entries t r) c) [] h

  pub constant-at_row : row_constant (pivoted t r c) r
      ≡ solved_constant (row_entries t r) c (row_constant t r)
  constant-at_row =
      let n : ℚ = solved_constant (row_entries t r) c (row_constant t r) in
      let h : r < length (eliminated_constants t.entries t.constants c n) = omega (
        arith,
        length-eliminated_constants t.entries t.constants c n (ok.rows
            ∙ sym ok.constants),
        ok.constants,
      ) in
      get_or-set_same (eliminated_constants t.entries t.constants c n) r n zero_ℚ h

  pub column-at_column : column (pivoted t r c) c ≡ owner t r
  column-at_column = ap (λ o. o.unknown) (get_or-set_same t.columns c (get_or t.owners r nobody)
      nobody inside)

  -- at another one
  pub whole_owner-at_other : (i : ℕ) → i ≢ r → get_or (pivoted t r c).owners i nobody
      ≡ get_or t.owners i nobody
  whole_owner-at_other i other = get_or-set_other t.owners r i (get_or t.columns c nobody)
      nobody other

  pub owner-at_other : (i : ℕ) → i ≢ r → owner (pivoted t r c) i ≡ owner t i
  owner-at_other i other = ap (λ o. o.unknown) (whole_owner-at_other i other)

  pub entries-at_other : (i : ℕ) → i < length t.owners → i ≢ r → row_entries (pivoted t r c) i
      ≡ eliminated (row_entries t i) c (solved (row_entries t r) c)
  entries-at_other i within other =
      let f : List ℚ → List ℚ = λ es. eliminated es c (solved (row_entries t r) c) in
      let h : i < length t.entries = omega (arith, ok.rows) in
      get_or-set_other (map f t.entries) r i (solved (row_entries t r) c) [] other
      ∙ get_or-map f t.entries i [] [] h

  pub constant-at_other : (i : ℕ) → i < length t.owners → i ≢ r → row_constant (pivoted t r c) i
      ≡ row_constant t i +ℚ entry t i c *ℚ solved_constant (row_entries t r) c (row_constant t r)
  constant-at_other i within other =
      let n : ℚ = solved_constant (row_entries t r) c (row_constant t r) in
      let h : i < length t.entries = omega (arith, ok.rows) in
      get_or-set_other (eliminated_constants t.entries t.constants c n) r i n zero_ℚ other
      ∙ get_or-eliminated_constants t.entries t.constants c n i h (ok.rows ∙ sym ok.constants)

  -- the two change places, so that each test passes as often
  pub count-pivoted : (p : Owner → Bool) → count_by p (pivoted t r c).owners
      + count_by p (pivoted t r c).columns ≡ count_by p t.owners + count_by p t.columns
  count-pivoted p =
      let x : Owner = get_or t.owners r nobody in
      let y : Owner = get_or t.columns c nobody in
      balanced (count_by p (set t.owners r y)) (count_by p (set t.columns c x))
      (count_by p t.owners) (count_by p t.columns) (mark (p x)) (mark (p y))
      (count_by-set p t.owners r y nobody row) (count_by-set p t.columns c x nobody inside)
    where
      balanced : (a b e f m n : ℕ) → a + m ≡ e + n → b + n ≡ f + m → a + b ≡ e + f
      balanced a b e f m n h k = omega arith

  pub size-pivoted : size (pivoted t r c) ≡ size t
  size-pivoted = ap₂ (λ a b. a + b) (length-set t.owners r (get_or t.columns c nobody))
      (length-set t.columns c (get_or t.owners r nobody))

  pub IsRestricted-pivoted : (u : ℕ) → IsRestricted t u → IsRestricted (pivoted t r c) u
  IsRestricted-pivoted u h = subst (λ (n : ℕ). 0 < n) (sym (count-pivoted (is_marked u))) h

  pub IsRestricted_from_pivoted : (u : ℕ) → IsRestricted (pivoted t r c) u → IsRestricted t u
  IsRestricted_from_pivoted u h = subst (λ (n : ℕ). 0 < n) (count-pivoted (is_marked u)) h

  pub IsTable-pivoted : IsTable (pivoted t r c)
  IsTable-pivoted = record {
    rows = length-set (map f t.entries) r (solved (row_entries t r) c) ∙ length-map t.entries f
        ∙ ok.rows ∙ sym (length-set t.owners r (get_or t.columns c nobody));
    constants = length-set (eliminated_constants t.entries t.constants c n) r n
        ∙ length-eliminated_constants t.entries t.constants c n (ok.rows ∙ sym ok.constants)
        ∙ ok.constants ∙ sym (length-set t.owners r (get_or t.columns c nobody));
    width = λ i within. widths i (omega (arith, length-set t.owners r (get_or t.columns c nobody)));
    numbered = λ u. count-pivoted (holds u) ∙ ok.numbered u
        ∙ ap (λ (m : ℕ). cond (nat_lt u m) 1 0) (sym size-pivoted);
  }
    where
      n : ℚ
      n = solved_constant (row_entries t r) c (row_constant t r)

      f : List ℚ → List ℚ
      f = λ es. eliminated es c (solved (row_entries t r) c)

      columns : length (pivoted t r c).columns ≡ length t.columns
      columns = length-set t.columns c (get_or t.owners r nobody)

      whole : length (solved (row_entries t r) c) ≡ length t.columns
      whole = length-solved (row_entries t r) c ∙ ok.width r row

      widths : (i : ℕ) → i < length t.owners → length (row_entries (pivoted t r c) i)
          ≡ length (pivoted t r c).columns
      widths i within = go (i == r) refl
        where
          go : (b : Bool) → i == r ≡ b → length (row_entries (pivoted t r c) i)
              ≡ length (pivoted t r c).columns
          go true e =
              subst (λ (j : ℕ). length (row_entries (pivoted t r c) j)
              ≡ length (pivoted t r c).columns) (sym (eqb-true i r e))
              (ap length entries-at_row ∙ whole ∙ sym columns)
          go false e =
              let es : List ℚ = row_entries t i in
              ap length (entries-at_other i within (eqb-false i r e))
              ∙ length-plus_multiple (get_or es c zero_ℚ) (set es c zero_ℚ)
              (solved (row_entries t r) c) (length-set es c zero_ℚ ∙ ok.width i within
              ∙ sym whole)
              ∙ length-set es c zero_ℚ ∙ ok.width i within ∙ sym columns
