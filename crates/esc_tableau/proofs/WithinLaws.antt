-- What the calls that make and mark unknowns keep.
use Rattle.std.proofs.Common.{◌≡◌, ◌≢◌, ◌⊎◌, inl, inr, ℕ, zero, suc, ◌+◌, ◌<◌, ◌≤◌, Bool, true, false, not, cond, List, [], ◌∷◌, ◌++◌, length, set, get_or, refl, sym, ap, ap₂, ◌∙◌, subst, arith, length-set, get_or-set_same, get_or-set_other, eqb-true}
use Rattle.std.specs.List.{count_by, position_or_len, All}
use Rattle.std.proofs.lemmas.Bool.{cases_lt, cases_eq, and_right}
use Rattle.std.proofs.lemmas.List.{get_or-map, length_push, get_or_push, length-replicate, get_or_append_left, set_past}
use Rattle.esc_frac.specs.Rational.{ℚ, zero_ℚ, ◌+ℚ◌, ◌≤ℚ◌}
use Rattle.esc_rows.specs.Rows.{Point, combination}
use Rattle.esc_rows.proofs.RowLemmas.{map-set_same}
use Rattle.esc_tableau.specs.Changes.{Sum, start_sum, plus_parts, parts_value, free_owner, with_row, with_column, marked, with_mark, AddsRow, AddsColumn, Restricts, Frees}
use Rattle.esc_tableau.specs.Table.{Table, IsTable, IsSolution, IsWithin, IsRestricted, OwnsRow, OwnsColumn, nobody, holds, is_marked, size, unknowns, owner, column, row_entries, row_constant, row_of, column_of, place_of, sample}
use Rattle.esc_tableau.specs.declared.changing.Part.{Part}
use Rattle.esc_tableau.specs.declared.owner.Owner.{Owner}
use Rattle.esc_tableau.proofs.ChangeLaws.{IsTable-with_row, plus_parts_wide}
use Rattle.esc_tableau.proofs.Counting.{mark, count_by-push, passes_at_first}
use Rattle.esc_tableau.proofs.MoveLaws.{RestrictedRow, RestrictedColumn, restricted_place, restricted_owner, restricted_column}
use Rattle.esc_tableau.proofs.Places.{owns_one, row_of-owner, column_of-column, owner-row_of, column-column_of}
use Rattle.esc_tableau.proofs.SampleLaws.{sample-owner, sample-column}
use Rattle.esc_tableau.proofs.SumLaws.{value-whole, row_left, row_new, row_both, column_more, column_less}

-- the sample stays within where each restricted unknown was so and keeps its value
within_kept : (old new : Table) → ((u : ℕ) → IsRestricted new u → IsRestricted old u)
    → ((u : ℕ) → IsRestricted old u → sample new u ≡ sample old u) → IsWithin old (sample old)
    → IsWithin new (sample new)
within_kept old new restricted values within u h = subst (λ (x : ℚ). zero_ℚ ≤ℚ x)
    (sym (values u (restricted u h))) (within u (restricted u h))

-- a free owner is not marked
free_unmarked : (os : List Owner) (n u : ℕ) → count_by (is_marked u) (os ++ free_owner n ∷ [])
    ≡ count_by (is_marked u) os
free_unmarked os n u =
    let none = ap mark (and_right (holds u (free_owner n)) false refl) in
    omega (arith, count_by-push (is_marked u) os (free_owner n), none)

module _ (t : Table) (ok : IsTable t) (s : Sum) (wide : length s.entries ≡ length t.columns) where
  row_restrictions : (u : ℕ) → count_by (is_marked u) (with_row t s).owners
      + count_by (is_marked u) (with_row t s).columns ≡ count_by (is_marked u) t.owners
      + count_by (is_marked u) t.columns
  row_restrictions u = ap (λ n. n + count_by (is_marked u) t.columns)
      (free_unmarked t.owners (size t) u)

  row_sample : (u : ℕ) → IsRestricted t u → sample (with_row t s) u ≡ sample t u
  row_sample u h = go (restricted_place t u h)
    where
      go : RestrictedRow t u ⊎ RestrictedColumn t u → sample (with_row t s) u ≡ sample t u
      go (inl at) =
          let same : owner (with_row t s) at.row ≡ owner t at.row = ap (λ o. o.unknown)
          (get_or_append_left t.owners (free_owner (size t) ∷ []) nobody at.row at.inside) in
          ap (sample (with_row t s)) (sym at.is ∙ sym same)
          ∙ sample-owner (with_row t s) (IsTable-with_row t s ok wide) at.row
          (omega (arith, at.inside, length_push t.owners (free_owner (size t))))
          ∙ get_or_append_left t.constants (s.constant ∷ []) zero_ℚ at.row
          (omega (arith, at.inside, ok.constants))
          ∙ sym (sample-owner t ok at.row at.inside)
          ∙ ap (sample t) at.is
      go (inr at) =
          ap (sample (with_row t s)) (sym at.is)
          ∙ sample-column (with_row t s) (IsTable-with_row t s ok wide) at.place at.inside
          ∙ sym (sample-column t ok at.place at.inside)
          ∙ ap (sample t) at.is

row_owned : (t : Table) (ok : IsTable t) (s : Sum) (wide : length s.entries ≡ length t.columns)
    → OwnsRow (with_row t s) (size t)
row_owned t ok s wide =
    let last : length t.owners < length (with_row t s).owners = omega
    (arith, length_push t.owners (free_owner (size t))) in
    let there : owner (with_row t s) (length t.owners)
    ≡ size t = ap (λ (o : Owner). o.unknown) (get_or_push t.owners (free_owner (size t)) nobody
    (length t.owners) refl) in
    let here : row_of (with_row t s) (size t) ≡ length t.owners = ap (row_of (with_row t s))
    (sym there) ∙ row_of-owner (with_row t s) (IsTable-with_row t s ok wide)
    (length t.owners) last in
    subst (λ (k : ℕ). k < length (with_row t s).owners) (sym here) last

pub AddsRow-with_row : (t : Table) → IsTable t → (ps : List Part) (k : ℚ)
    → All (λ p. p.unknown < size t) ps → AddsRow t
    (with_row t (plus_parts t (start_sum t k) ps)) ps k
AddsRow-with_row t ok ps k below = adds (plus_parts t (start_sum t k) ps)
    (plus_parts_wide t (start_sum t k) ps ok below (length-replicate (length t.columns) zero_ℚ))
    (λ v holds. value-whole v t ok holds ps k below)
  where
    adds : (s : Sum) → length s.entries ≡ length t.columns
        → ((v : Point) → IsSolution t v → combination v s.entries (unknowns t.columns) +ℚ s.constant
        ≡ parts_value v ps +ℚ k) → AddsRow t (with_row t s) ps k
    adds s wide whole = record {
      solutions = λ v. (
        λ h. (row_left v t ok s h, row_new v t ok s h ∙ whole v (row_left v t ok s h)),
        λ h. row_both v t ok s h.0 (h.1 ∙ sym (whole v h.0)),
      );
      restrictions = λ u. (
        λ h. subst (λ (n : ℕ). 0 < n) (sym (row_restrictions t ok s wide u)) h,
        λ h. subst (λ (n : ℕ). 0 < n) (row_restrictions t ok s wide u) h,
      );
      within = within_kept t (with_row t s) (λ u h. subst (λ (n : ℕ). 0
          < n) (row_restrictions t ok s wide u) h) (row_sample t ok s wide);
      size = omega (arith, length_push t.owners (free_owner (size t)));
      owner = row_owned t ok s wide;
    }

pub AddsColumn-with_column : (t : Table) → IsTable t → AddsColumn t (with_column t)
AddsColumn-with_column t ok = record {
  solutions = λ v. (column_more v t ok, column_less v t ok);
  restrictions = λ u. (
    λ h. subst (λ (n : ℕ). 0 < n) (sym (same u)) h,
    λ h. subst (λ (n : ℕ). 0
        < n) (same u) h,
  );
  within = within_kept t (with_column t) (λ u h. subst (λ (n : ℕ). 0 < n) (same u) h) (λ u h. refl);
  size = omega (arith, length_push t.columns (free_owner (size t)));
}
  where
    same : (u : ℕ) → count_by (is_marked u) (with_column t).owners
        + count_by (is_marked u) (with_column t).columns ≡ count_by (is_marked u) t.owners
        + count_by (is_marked u) t.columns
    same u = ap (λ n. count_by (is_marked u) t.owners + n) (free_unmarked t.columns (size t) u)

-- ---- a mark

position-set_same : {X : Type 0} (p : X → Bool) (xs : List X) (i : ℕ) (y d : X)
    → (i < length xs → p y ≡ p (get_or xs i d)) → position_or_len p (set xs i y)
    ≡ position_or_len p xs
position-set_same p [] i y d h = refl
position-set_same p (x ∷ xs) zero y d h = ap (λ (b : Bool). cond (not b) (1 + position_or_len p xs)
    0) (h (omega arith))
position-set_same p (x ∷ xs) (suc i) y d h = ap (λ (n : ℕ). cond (not (p x)) (1 + n) 0)
    (position-set_same p xs i y d (λ k. h (omega arith)))

module _ (os : List Owner) (u : ℕ) (b : Bool) where
  at_place : place_of os u < length os → u ≡ (get_or os (place_of os u) nobody).unknown
  at_place inside = sym (eqb-true _ u (passes_at_first (holds u) os nobody inside))

  marked_unknowns : unknowns (marked os u b (place_of os u)) ≡ unknowns os
  marked_unknowns = go (cases_lt (place_of os u) (length os))
    where
      go : (place_of os u < length os) ⊎ (length os ≤ place_of os u)
          → unknowns (marked os u b (place_of os u)) ≡ unknowns os
      go (inl h) = map-set_same (λ o. o.unknown) os (place_of os u)
          (record { unknown = u; restricted = b }) nobody (at_place h)
      go (inr h) = ap unknowns (set_past os (place_of os u)
          (record { unknown = u; restricted = b }) h)

  marked_place : (w : ℕ) → place_of (marked os u b (place_of os u)) w ≡ place_of os w
  marked_place w = position-set_same (holds w) os (place_of os u)
      (record { unknown = u; restricted = b }) nobody
      (λ inside. ap (λ (k : ℕ). holds w (record { unknown = k; restricted = b })) (at_place inside))

  marked_unknown : (i : ℕ) → i < length os → (get_or (marked os u b (place_of os u)) i
      nobody).unknown ≡ (get_or os i nobody).unknown
  marked_unknown i inside =
      let within : i < length (marked os u b (place_of os u)) = omega
      (arith, length-set os (place_of os u) (record { unknown = u; restricted = b })) in
      sym (get_or-map (λ o. o.unknown) (marked os u b (place_of os u)) i nobody 0 within)
      ∙ ap (λ (us : List ℕ). get_or us i 0) marked_unknowns
      ∙ get_or-map (λ o. o.unknown) os i nobody 0 inside

module _ (t : Table) (ok : IsTable t) (u : ℕ) (b : Bool) where
  owners_long : length (with_mark t u b).owners ≡ length t.owners
  owners_long = length-set t.owners (row_of t u) (record { unknown = u; restricted = b })

  columns_long : length (with_mark t u b).columns ≡ length t.columns
  columns_long = length-set t.columns (column_of t u) (record { unknown = u; restricted = b })

  mark_more : (v : Point) → IsSolution t v → IsSolution (with_mark t u b) v
  mark_more v holds r row =
      let row' : r < length t.owners = omega (arith, owners_long) in
      ap v (marked_unknown t.owners u b r row') ∙ holds r row'
      ∙ ap (λ (cs : List ℕ). combination v (row_entries t r) cs +ℚ row_constant t r)
      (sym (marked_unknowns t.columns u b))

  mark_less : (v : Point) → IsSolution (with_mark t u b) v → IsSolution t v
  mark_less v holds r row =
      ap v (sym (marked_unknown t.owners u b r row)) ∙ holds r (omega (arith, owners_long))
      ∙ ap (λ (cs : List ℕ). combination v (row_entries t r) cs +ℚ row_constant t r)
      (marked_unknowns t.columns u b)

  mark_sample : (w : ℕ) → sample (with_mark t u b) w ≡ sample t w
  mark_sample w = ap (row_constant t) (marked_place t.owners u b w)

  -- what is restricted then is u, or was so before
  mark_after : (w : ℕ) → IsRestricted (with_mark t u b) w → ((w ≡ u) × (b ≡ true))
      ⊎ (IsRestricted t w × (w ≢ u))
  mark_after w h = go (restricted_place (with_mark t u b) w h)
    where
      row_case : (i : ℕ) → i < length t.owners → owner (with_mark t u b) i ≡ w
          → (get_or (with_mark t u b).owners i nobody).restricted ≡ true → (i ≡ row_of t u)
          ⊎ (i ≢ row_of t u) → ((w ≡ u) × (b ≡ true)) ⊎ (IsRestricted t w × (w ≢ u))
      row_case i inside is mark (inl e) =
          let here = get_or-set_same t.owners (row_of t u) (record { unknown = u; restricted = b })
          nobody (subst (λ (k : ℕ). k < length t.owners) e inside) in
          let there = ap (λ (k : ℕ). get_or (with_mark t u b).owners k nobody) e ∙ here in
          inl (
            sym is ∙ ap (λ (o : Owner). o.unknown) there,
            ap (λ (o : Owner). o.restricted)
                (sym there) ∙ mark,
          )
      row_case i inside is mark (inr other) =
          let there = get_or-set_other t.owners (row_of t u) i
          (record { unknown = u; restricted = b }) nobody other in
          let was : owner t i ≡ w = ap (λ (o : Owner). o.unknown) (sym there) ∙ is in
          inr (
            subst (IsRestricted t) was (restricted_owner t i inside
                (ap (λ (o : Owner). o.restricted) (sym there) ∙ mark)),
            λ e. other (sym (row_of-owner t ok i inside) ∙ ap (row_of t) (was ∙ e)),
          )

      column_case : (i : ℕ) → i < length t.columns → column (with_mark t u b) i ≡ w
          → (get_or (with_mark t u b).columns i nobody).restricted ≡ true → (i ≡ column_of t u)
          ⊎ (i ≢ column_of t u) → ((w ≡ u) × (b ≡ true)) ⊎ (IsRestricted t w × (w ≢ u))
      column_case i inside is mark (inl e) =
          let here = get_or-set_same t.columns (column_of t u)
          (record { unknown = u; restricted = b }) nobody
          (subst (λ (k : ℕ). k < length t.columns) e inside) in
          let there = ap (λ (k : ℕ). get_or (with_mark t u b).columns k nobody) e ∙ here in
          inl (
            sym is ∙ ap (λ (o : Owner). o.unknown) there,
            ap (λ (o : Owner). o.restricted)
                (sym there) ∙ mark,
          )
      column_case i inside is mark (inr other) =
          let there = get_or-set_other t.columns (column_of t u) i
          (record { unknown = u; restricted = b }) nobody other in
          let was : column t i ≡ w = ap (λ (o : Owner). o.unknown) (sym there) ∙ is in
          inr (
            subst (IsRestricted t) was (restricted_column t i inside
                (ap (λ (o : Owner). o.restricted) (sym there) ∙ mark)),
            λ e. other (sym (column_of-column t ok i inside) ∙ ap (column_of t) (was ∙ e)),
          )

      go : RestrictedRow (with_mark t u b) w ⊎ RestrictedColumn (with_mark t u b) w
          → ((w ≡ u) × (b ≡ true)) ⊎ (IsRestricted t w × (w ≢ u))
      go (inl at) = row_case at.row (omega (arith, at.inside, owners_long)) at.is at.marked
          (cases_eq at.row (row_of t u))
      go (inr at) = column_case at.place (omega (arith, at.inside, columns_long)) at.is at.marked
          (cases_eq at.place (column_of t u))

  -- another unknown stays restricted
  mark_other : (w : ℕ) → IsRestricted t w → w ≢ u → IsRestricted (with_mark t u b) w
  mark_other w h other = go (restricted_place t w h)
    where
      go : RestrictedRow t w ⊎ RestrictedColumn t w → IsRestricted (with_mark t u b) w
      go (inl at) =
          let apart : at.row ≢ row_of t u = λ e. other (sym at.is ∙ ap (owner t) e
          ∙ owner-row_of t ok u (subst (λ (k : ℕ). k < length t.owners) e at.inside)) in
          let there = get_or-set_other t.owners (row_of t u) at.row
          (record { unknown = u; restricted = b }) nobody apart in
          subst (IsRestricted (with_mark t u b)) (ap (λ (o : Owner). o.unknown) there ∙ at.is)
          (restricted_owner (with_mark t u b) at.row (omega (arith, at.inside, owners_long))
          (ap (λ (o : Owner). o.restricted) there ∙ at.marked))
      go (inr at) =
          let apart : at.place ≢ column_of t u = λ e. other (sym at.is ∙ ap (column t) e
          ∙ column-column_of t ok u (subst (λ (k : ℕ). k < length t.columns) e at.inside)) in
          let there = get_or-set_other t.columns (column_of t u) at.place
          (record { unknown = u; restricted = b }) nobody apart in
          subst (IsRestricted (with_mark t u b)) (ap (λ (o : Owner). o.unknown) there ∙ at.is)
          (restricted_column (with_mark t u b) at.place (omega (arith, at.inside, columns_long))
          (ap (λ (o : Owner). o.restricted) there ∙ at.marked))

-- where it is marked, it is restricted
mark_own : (t : Table) → IsTable t → (u : ℕ) → u < size t → IsRestricted (with_mark t u true) u
mark_own t ok u below = go (owns_one t ok u below)
  where
    go : OwnsRow t u ⊎ OwnsColumn t u → IsRestricted (with_mark t u true) u
    go (inl h) =
        let there = get_or-set_same t.owners (row_of t u)
        (record { unknown = u; restricted = true }) nobody h in
        subst (IsRestricted (with_mark t u true)) (ap (λ (o : Owner). o.unknown) there)
        (restricted_owner (with_mark t u true) (row_of t u)
        (omega (arith, h, owners_long t ok u true)) (ap (λ (o : Owner). o.restricted) there))
    go (inr h) =
        let there = get_or-set_same t.columns (column_of t u)
        (record { unknown = u; restricted = true }) nobody h in
        subst (IsRestricted (with_mark t u true)) (ap (λ (o : Owner). o.unknown) there)
        (restricted_column (with_mark t u true) (column_of t u)
        (omega (arith, h, columns_long t ok u true)) (ap (λ (o : Owner). o.restricted) there))

pub Restricts-with_mark : (t : Table) → IsTable t → (u : ℕ) → u < size t → zero_ℚ ≤ℚ sample t u
    → Restricts t (with_mark t u true) u
Restricts-with_mark t ok u below above = record {
  solutions = λ v. (mark_more t ok u true v, mark_less t ok u true v);
  restrictions = λ w. (λ h. was w (mark_after t ok u true w h), λ h. becomes w h (cases_eq w u));
  within = λ within w h. stays within w (mark_after t ok u true w h);
  size = ap₂ (λ m n. m + n) (owners_long t ok u true) (columns_long t ok u true);
}
  where
    was : (w : ℕ) → ((w ≡ u) × (true ≡ true)) ⊎ (IsRestricted t w × (w ≢ u)) → IsRestricted t w
        ⊎ (w ≡ u)
    was w (inl h) = inr h.0
    was w (inr h) = inl h.0

    becomes : (w : ℕ) → IsRestricted t w ⊎ (w ≡ u) → (w ≡ u) ⊎ (w ≢ u)
        → IsRestricted (with_mark t u true) w
    becomes w h (inl e) = subst (IsRestricted (with_mark t u true)) (sym e) (mark_own t ok u below)
    becomes w (inl h) (inr other) = mark_other t ok u true w h other
    becomes w (inr h) (inr other) = absurd (other h)

    stays : IsWithin t (sample t) → (w : ℕ) → ((w ≡ u) × (true ≡ true))
        ⊎ (IsRestricted t w × (w ≢ u)) → zero_ℚ ≤ℚ sample (with_mark t u true) w
    stays within w (inl h) = subst (λ (x : ℚ). zero_ℚ ≤ℚ x) (ap (sample t) (sym h.0)
        ∙ sym (mark_sample t ok u true w)) above
    stays within w (inr h) = subst (λ (x : ℚ). zero_ℚ ≤ℚ x) (sym (mark_sample t ok u true w))
        (within w h.0)

pub Frees-with_mark : (t : Table) → IsTable t → (u : ℕ) → Frees t (with_mark t u false) u
Frees-with_mark t ok u = record {
  solutions = λ v. (mark_more t ok u false v, mark_less t ok u false v);
  restrictions = λ w. (
    λ h. was w (mark_after t ok u false w h),
    λ h. mark_other t ok u false w
        h.0 h.1,
  );
  within = within_kept t (with_mark t u false) (λ w h. (was w (mark_after t ok u false w h)).0)
      (λ w h. mark_sample t ok u false w);
  size = ap₂ (λ m n. m + n) (owners_long t ok u false) (columns_long t ok u false);
}
  where
    was : (w : ℕ) → ((w ≡ u) × (false ≡ true)) ⊎ (IsRestricted t w × (w ≢ u)) → IsRestricted t w
        × (w ≢ u)
    was w (inl h) = let no = h.1 in cc
    was w (inr h) = h
