-- A pivot keeps the solutions.
use Rattle.std.proofs.Common.{◌≡◌, ◌≢◌, ℕ, ◌<◌, Bool, true, false, ◌==◌, List, length, set, get_or, pos, refl, sym, ap, ap₂, ◌∙◌, subst, arith, eqb-true, length-set}
use Rattle.std.proofs.lemmas.Bool.{eqb-false}
use Rattle.std.proofs.lemmas.List.{length-map}
use Rattle.esc_frac.specs.Rational.{ℚ, ◌+ℚ◌, ◌*ℚ◌}
use Rattle.esc_rows.specs.Rows.{Point, RowHolds, combination, solved, solved_constant, eliminated}
use Rattle.esc_rows.proofs.SolvedLaws.{RowHolds-solved, RowHolds_from_solved, combination-eliminated}
use Rattle.esc_tableau.specs.Table.{Table, IsTable, SameSystem, IsSolution, IsWithin, nobody, unknowns, owner, entry, row_entries, row_constant, pivoted}
use Rattle.esc_tableau.proofs.Pivoted.{columns_are, column_is, owner-at_row, entries-at_row, constant-at_row, owner-at_other, entries-at_other, constant-at_other, IsRestricted-pivoted, IsRestricted_from_pivoted, size-pivoted}

same_row : (v : Point) {cs cs' : List ℕ} {o o' : ℕ} {es es' : List ℚ} {k k' : ℚ} → cs ≡ cs' → o ≡ o'
    → es ≡ es' → k ≡ k' → RowHolds v cs o es k → RowHolds v cs' o' es' k'
same_row v {o' = o'} {es = es} {k' = k'} d e f g holds =
    sym (ap v e) ∙ holds ∙ ap₂ (λ x y. x +ℚ y) (ap₂ (λ x y. combination v x y) f d) g

module _ (t : Table) (ok : IsTable t) (r c : ℕ) (row : r < length t.owners) (inside : c
    < length t.columns) (some : (entry t r c).num ≢ pos 0) where
  pub IsWithin-pivoted : (v : Point) → IsWithin t v → IsWithin (pivoted t r c) v
  IsWithin-pivoted v within u h = within u (IsRestricted_from_pivoted t ok r c row inside u h)

  module _ (v : Point) where
    width : (i : ℕ) → i < length t.owners → length (row_entries t i) ≡ length (unknowns t.columns)
    width i h = ok.width i h ∙ sym (length-map t.columns (λ o. o.unknown))

    solved_row : IsSolution t v → RowHolds v (set (unknowns t.columns) c (owner t r))
        (get_or (unknowns t.columns) c 0) (solved (row_entries t r) c)
        (solved_constant (row_entries t r) c (row_constant t r))
    solved_row holds =
        RowHolds-solved v (row_entries t r) (unknowns t.columns) c (owner t r) (row_constant t r)
        (omega (arith, ok.width r row)) (width r row) some (holds r row)

    kept_row : (i : ℕ) → i < length t.owners → RowHolds v (set (unknowns t.columns) c (owner t r))
        (get_or (unknowns t.columns) c 0) (solved (row_entries t r) c)
        (solved_constant (row_entries t r) c (row_constant t r))
        → combination v (eliminated (row_entries t i) c (solved (row_entries t r) c))
        (set (unknowns t.columns) c (owner t r)) +ℚ (row_constant t i
        +ℚ entry t i c *ℚ solved_constant (row_entries t r) c (row_constant t r))
        ≡ combination v (row_entries t i) (unknowns t.columns) +ℚ row_constant t i
    kept_row i within holds =
        combination-eliminated v (row_entries t r) (unknowns t.columns) c (owner t r)
        (row_constant t r) (omega (arith, ok.width r row)) (width r row) some (row_entries t i)
        (row_constant t i) (width i within) holds

    -- a pivot keeps each solution
    pub IsSolution-pivoted : IsSolution t v → IsSolution (pivoted t r c) v
    IsSolution-pivoted holds i within' = go (i == r) refl
      where
        within : i < length t.owners
        within = omega (arith, length-set t.owners r (get_or t.columns c nobody))

        go : (b : Bool) → i == r ≡ b → RowHolds v (unknowns (pivoted t r c).columns)
            (owner (pivoted t r c) i) (row_entries (pivoted t r c) i)
            (row_constant (pivoted t r c) i)
        go true e =
            subst (λ (j : ℕ). RowHolds v (unknowns (pivoted t r c).columns)
            (owner (pivoted t r c) j) (row_entries (pivoted t r c) j)
            (row_constant (pivoted t r c) j)) (sym (eqb-true i r e))
            (same_row v (sym (columns_are t ok r c row inside)) (column_is t ok r c row inside
            ∙ sym (owner-at_row t ok r c row inside)) (sym (entries-at_row t ok r c row inside))
            (sym (constant-at_row t ok r c row inside)) (solved_row holds))
        go false e =
            let other : i ≢ r = eqb-false i r e in
            same_row v (sym (columns_are t ok r c row inside))
            (sym (owner-at_other t ok r c row inside i other))
            (sym (entries-at_other t ok r c row inside i within other))
            (sym (constant-at_other t ok r c row inside i within other))
            (holds i within ∙ sym (kept_row i within (solved_row holds)))

    -- and adds none
    pub IsSolution_from_pivoted : IsSolution (pivoted t r c) v → IsSolution t v
    IsSolution_from_pivoted holds i within = go (i == r) refl
      where
        lent : (j : ℕ) → j < length t.owners → j < length (pivoted t r c).owners
        lent j h = omega (arith, length-set t.owners r (get_or t.columns c nobody))

        taken : RowHolds v (set (unknowns t.columns) c (owner t r))
            (get_or (unknowns t.columns) c 0) (solved (row_entries t r) c)
            (solved_constant (row_entries t r) c (row_constant t r))
        taken = same_row v (columns_are t ok r c row inside) (owner-at_row t ok r c row inside
            ∙ sym (column_is t ok r c row inside)) (entries-at_row t ok r c row inside)
            (constant-at_row t ok r c row inside) (holds r (lent r row))

        go : (b : Bool) → i == r ≡ b → RowHolds v (unknowns t.columns) (owner t i) (row_entries t i)
            (row_constant t i)
        go true e =
            subst (λ (j : ℕ). RowHolds v (unknowns t.columns) (owner t j) (row_entries t j)
            (row_constant t j)) (sym (eqb-true i r e))
            (RowHolds_from_solved v (row_entries t r) (unknowns t.columns) c (owner t r)
            (row_constant t r) (omega (arith, ok.width r row)) (width r row) some taken)
        go false e =
            let other : i ≢ r = eqb-false i r e in
            same_row v (columns_are t ok r c row inside)
            (owner-at_other t ok r c row inside i other)
            (entries-at_other t ok r c row inside i within other)
            (constant-at_other t ok r c row inside i within other) (holds i (lent i within))
            ∙ kept_row i within taken

  pub SameSystem-pivoted : SameSystem t (pivoted t r c)
  SameSystem-pivoted = record {
    solutions = λ v. (IsSolution-pivoted v, IsSolution_from_pivoted v);
    restrictions = λ u. (
      IsRestricted-pivoted t ok r c row inside u,
      IsRestricted_from_pivoted t ok
          r c row inside u,
    );
    size = size-pivoted t ok r c row inside;
  }

pub SameSystem_refl : (t : Table) → SameSystem t t
SameSystem_refl t = record {
  solutions = λ v. (λ h. h, λ h. h);
  restrictions = λ u.
      (λ h. h, λ h. h);
  size = refl;
}

pub SameSystem_trans : (s t w : Table) → SameSystem s t → SameSystem t w → SameSystem s w
SameSystem_trans s t w h k = record {
  solutions = λ v. (
    λ x. (k.solutions v).0 ((h.solutions v).0 x),
    λ x. (h.solutions v).1
        ((k.solutions v).1 x),
  );
  restrictions = λ u. (
    λ x. (k.restrictions u).0 ((h.restrictions u).0 x),
    λ x. (h.restrictions u).1
        ((k.restrictions u).1 x),
  );
  size = k.size ∙ h.size;
}

-- a point within the restrictions is so in each table with the same ones
pub IsWithin-same : (s t : Table) (v : Point) → SameSystem s t → IsWithin s v → IsWithin t v
IsWithin-same s t v same within u h = within u ((same.restrictions u).1 h)
