-- What dropping the newest unknown with its row keeps.
use Rattle.std.proofs.Common.{◌≡◌, ◌≢◌, ◌⊎◌, inl, inr, ℕ, suc, ◌+◌, ◌-◌, ◌<◌, ◌≤◌, false, ◌==◌, cond, List, [], ◌∷◌, length, get_or, refl, sym, ap, ap₂, ◌∙◌, subst, arith}
use Rattle.std.specs.List.{count_by}
use Rattle.std.proofs.lemmas.Bool.{cases_lt, cases_eq, and_left, cond-true, cond-false, eq-eqb, ne_eqb}
use Rattle.std.proofs.lemmas.List.{length-map, get_or-map}
use Rattle.std.proofs.lemmas.List.Edits.{length-remove, get_or-remove_below, get_or-remove_above}
use Rattle.esc_frac.specs.Rational.{ℚ, zero_ℚ, ◌+ℚ◌, ◌*ℚ◌, ◌≤ℚ◌}
use Rattle.esc_rows.specs.Rows.{Point, RowHolds, combination}
use Rattle.esc_tableau.specs.Changes.{without_row, DropsRow}
use Rattle.esc_tableau.specs.Table.{Table, IsTable, IsSolution, IsRestricted, OwnsRow, OwnsColumn, nobody, holds, is_marked, size, unknowns, owner, column, row_entries, row_constant, row_of, column_of, sample}
use Rattle.esc_tableau.proofs.ChangeLaws.{IsTable-without_row}
use Rattle.esc_tableau.proofs.Counting.{mark, count_by-remove}
use Rattle.esc_tableau.proofs.MoveLaws.{RestrictedRow, RestrictedColumn, restricted_place}
use Rattle.esc_tableau.proofs.Places.{owns_one, row_of-owner, owner-row_of, column-column_of, no_row-column, owner_below, column_below}
use Rattle.esc_tableau.proofs.SampleLaws.{sample-owner, sample-column}

-- sums agree where the points agree at the columns' unknowns
combination-agree : (v w : Point) (es : List ℚ) (cs : List ℕ)
    → ((j : ℕ) → j < length cs → v (get_or cs j 0) ≡ w (get_or cs j 0)) → combination v es cs
    ≡ combination w es cs
combination-agree v w [] cs same = refl
combination-agree v w (e ∷ es) [] same = refl
combination-agree v w (e ∷ es) (c ∷ cs) same =
    ap₂ (λ x y. e *ℚ x +ℚ y) (same 0 (omega arith))
    (combination-agree v w es cs (λ j inside. same (suc j) (omega arith)))

-- row i of what is left was row j
record Was (t : Table) (r i j : ℕ) : Type 0 where
  pub owner : owner (without_row t r) i ≡ owner t j
  pub entries : row_entries (without_row t r) i ≡ row_entries t j
  pub constant : row_constant (without_row t r) i ≡ row_constant t j

module _ (t : Table) (ok : IsTable t) (r : ℕ) (row : r < length t.owners) (last : owner t r
    ≡ size t - 1) (fine : IsTable (without_row t r)) where
  shorter : length (without_row t r).owners + 1 ≡ length t.owners
  shorter = length-remove t.owners r row

  was_below : (i : ℕ) → i < r → Was t r i i
  was_below i h = record {
    owner = ap (λ o. o.unknown) (get_or-remove_below t.owners r nobody i h row);
    entries = get_or-remove_below t.entries r [] i h (omega (arith, ok.rows));
    constant = get_or-remove_below t.constants r zero_ℚ i h (omega (arith, ok.constants));
  }

  was_above : (i : ℕ) → r ≤ i → Was t r i (i + 1)
  was_above i h = record {
    owner = ap (λ o. o.unknown) (get_or-remove_above t.owners r nobody i h row);
    entries = get_or-remove_above t.entries r [] i h (omega (arith, ok.rows));
    constant = get_or-remove_above t.constants r zero_ℚ i h (omega (arith, ok.constants));
  }

  came : (i : ℕ) → i < length (without_row t r).owners → (j : ℕ) × (j < length t.owners)
      × Was t r i j
  came i inside = go (cases_lt i r)
    where
      go : (i < r) ⊎ (r ≤ i) → (j : ℕ) × (j < length t.owners) × Was t r i j
      go (inl h) = (i, omega arith, was_below i h)
      go (inr h) = (i + 1, omega (arith, shorter), was_above i h)

  went : (j : ℕ) → j < length t.owners → j ≢ r → (i : ℕ) × (i < length (without_row t r).owners)
      × Was t r i j
  went j inside other = go (cases_lt j r)
    where
      go : (j < r) ⊎ (r ≤ j) → (i : ℕ) × (i < length (without_row t r).owners) × Was t r i j
      go (inl h) = (j, omega (arith, shorter), was_below j h)
      go (inr h) =
          let back : j - 1 + 1 ≡ j = omega arith in (
            j - 1,
            omega (arith, shorter),
            subst (λ (k : ℕ). Was t r (j - 1) k) back
                (was_above (j - 1) (omega arith)),
          )

  less : size t ≡ size (without_row t r) + 1
  less = omega (arith, shorter)

  drop_solutions : (v : Point) → IsSolution t v → IsSolution (without_row t r) v
  drop_solutions v holds i inside =
      let at = came i inside in
      ap v at.2.owner ∙ holds at.0 at.1 ∙ sym (ap₂ (λ es k. combination v es (unknowns t.columns)
      +ℚ k) at.2.entries at.2.constant)

  -- the point with the dropped owner's value, at another unknown
  lift_other : (v : Point) (u : ℕ) → u ≢ size t - 1
      → cond (u == size t - 1) (combination v (row_entries t r) (unknowns t.columns)
      +ℚ row_constant t r) (v u) ≡ v u
  lift_other v u other = cond-false (u == size t - 1) _ (v u) (ne_eqb u (size t - 1) other)

  column_other : (j : ℕ) → j < length t.columns → column t j ≢ size t - 1
  column_other j inside e =
      let no = no_row-column t ok j inside in
      let here : row_of t (column t j) ≡ r = ap (row_of t) (e ∙ sym last)
      ∙ row_of-owner t ok r row in
      omega (arith, no, here)

  pub drop_extends : (v : Point) → IsSolution (without_row t r) v → (w : Point) × IsSolution t w
      × ((u : ℕ) → u < size (without_row t r) → w u ≡ v u)
  drop_extends v holds = (
    λ u. cond (u == size t - 1)
        (combination v (row_entries t r) (unknowns t.columns) +ℚ row_constant t r) (v u),
    solved,
    λ u below. lift_other v u (λ e. omega (arith, below, less, e)),
  )
    where
      sums : (es : List ℚ) → combination v es (unknowns t.columns)
          ≡ combination (λ u. cond (u == size t - 1)
          (combination v (row_entries t r) (unknowns t.columns) +ℚ row_constant t r) (v u)) es
          (unknowns t.columns)
      sums es =
          combination-agree v (λ u. cond (u == size t - 1)
          (combination v (row_entries t r) (unknowns t.columns) +ℚ row_constant t r) (v u)) es
          (unknowns t.columns)
          (λ j h.
          let inside : j < length t.columns = omega
          (arith, h, length-map t.columns (λ o. o.unknown)) in
          let named = get_or-map (λ o. o.unknown) t.columns j nobody 0 inside in
          sym (lift_other v (get_or (unknowns t.columns) j 0)
          (λ e. column_other j inside (sym named ∙ e))))

      solved : (j : ℕ) → j < length t.owners → RowHolds
          (λ u. cond (u == size t - 1) (combination v (row_entries t r) (unknowns t.columns)
          +ℚ row_constant t r) (v u)) (unknowns t.columns) (owner t j) (row_entries t j)
          (row_constant t j)
      solved j inside = go (cases_eq j r)
        where
          go : (j ≡ r) ⊎ (j ≢ r) → RowHolds (λ u. cond (u == size t - 1)
              (combination v (row_entries t r) (unknowns t.columns) +ℚ row_constant t r) (v u))
              (unknowns t.columns) (owner t j) (row_entries t j) (row_constant t j)
          go (inl e) =
              cond-true (owner t j == size t - 1) _ (v (owner t j))
              (eq-eqb (owner t j) (size t - 1) (ap (owner t) e ∙ last))
              ∙ ap (λ (k : ℕ). combination v (row_entries t k) (unknowns t.columns)
              +ℚ row_constant t k) (sym e)
              ∙ ap (λ x. x +ℚ row_constant t j) (sums (row_entries t j))
          go (inr other) =
              let at = went j inside other in
              let apart : owner t j ≢ size t - 1 = λ e. other (sym (row_of-owner t ok j inside)
              ∙ ap (row_of t) (e ∙ sym last) ∙ row_of-owner t ok r row) in
              lift_other v (owner t j) apart
              ∙ ap v (sym at.2.owner) ∙ holds at.0 at.1
              ∙ ap₂ (λ es k. combination v es (unknowns t.columns) +ℚ k) at.2.entries at.2.constant
              ∙ ap (λ x. x +ℚ row_constant t j) (sums (row_entries t j))

  drop_marks : (u : ℕ) → u < size (without_row t r)
      → count_by (is_marked u) (without_row t r).owners
      + count_by (is_marked u) (without_row t r).columns ≡ count_by (is_marked u) t.owners
      + count_by (is_marked u) t.columns
  drop_marks u below =
      let apart : (owner t r == u) ≡ false = ne_eqb (owner t r) u
      (λ e. omega (arith, below, less, sym last ∙ e)) in
      let none = ap mark (and_left (owner t r == u) (get_or t.owners r nobody).restricted apart) in
      omega (arith, count_by-remove (is_marked u) t.owners r nobody row, none)

  drop_sample : (u : ℕ) → u < size (without_row t r) → sample (without_row t r) u ≡ sample t u
  drop_sample u below = go (owns_one (without_row t r) fine u below)
    where
      go : OwnsRow (without_row t r) u ⊎ OwnsColumn (without_row t r) u → sample (without_row t r) u
          ≡ sample t u
      go (inl h) =
          let i : ℕ = row_of (without_row t r) u in
          let at = came i h in
          let is : owner t at.0 ≡ u = sym at.2.owner ∙ owner-row_of (without_row t r) fine u h in
          at.2.constant ∙ sym (sample-owner t ok at.0 at.1) ∙ ap (sample t) is
      go (inr h) =
          let is : column t (column_of t u) ≡ u = column-column_of (without_row t r) fine u h in
          ap (sample (without_row t r)) (sym is) ∙ sample-column (without_row t r) fine
          (column_of t u) h ∙ sym (sample-column t ok (column_of t u) h) ∙ ap (sample t) is

  restricted_below : (u : ℕ) → IsRestricted (without_row t r) u → u < size (without_row t r)
  restricted_below u h = go (restricted_place (without_row t r) u h)
    where
      go : RestrictedRow (without_row t r) u ⊎ RestrictedColumn (without_row t r) u → u
          < size (without_row t r)
      go (inl at) = subst (λ (w : ℕ). w < size (without_row t r)) at.is
          (owner_below (without_row t r) fine at.row at.inside)
      go (inr at) = subst (λ (w : ℕ). w < size (without_row t r)) at.is
          (column_below (without_row t r) fine at.place at.inside)

  drops : DropsRow t (without_row t r)
  drops = record {
    fewer = less;
    solutions = drop_solutions;
    extends = drop_extends;
    restrictions = λ u below. (
      λ h. subst (λ (n : ℕ). 0 < n) (sym (drop_marks u below)) h,
      λ h.
          subst (λ (n : ℕ). 0 < n) (drop_marks u below) h,
    );
    values = drop_sample;
    within = λ within u h.
        let below = restricted_below u h in
        subst (λ (x : ℚ). zero_ℚ ≤ℚ x) (sym (drop_sample u below))
        (within u (subst (λ (n : ℕ). 0 < n) (drop_marks u below) h));
  }

pub DropsRow-without_row : (t : Table) → IsTable t → OwnsRow t (size t - 1)
    → DropsRow t (without_row t (row_of t (size t - 1)))
DropsRow-without_row t ok owns = drops t ok (row_of t (size t - 1)) owns
    (owner-row_of t ok (size t - 1) owns) (IsTable-without_row t ok owns)
