-- The row that is summed from parts says what the parts say.
use Rattle.std.proofs.Common.{◌≡◌, ◌⊎◌, inl, inr, ℕ, zero, suc, ◌<◌, ◌≤◌, Bool, true, false, List, [], ◌∷◌, ◌++◌, length, set, get_or, nat_lt, refl, sym, ap, ap₂, ◌∙◌, subst, arith}
use Rattle.std.specs.List.{All}
use Rattle.std.specs.Prelude.{replicate}
use Rattle.std.proofs.lemmas.Bool.{cases_lt, cond-true, cond-false, ltb-true, ltb-false}
use Rattle.std.proofs.lemmas.List.{length-map, get_or-map, map-append, length_push, get_or_push, get_or_append_left, set-get_or, length-replicate}
use Rattle.std.proofs.lemmas.List.Elements.{All-head, All-tail}
use Rattle.esc_frac.specs.Rational.{ℚ, zero_ℚ, ◌+ℚ◌, ◌*ℚ◌}
use Rattle.esc_frac.proofs.FieldLaws.{+ℚ_comm, +ℚ_assoc, +ℚ_cancel, zero-+ℚ, *ℚ-+ℚ, +ℚ-*ℚ}
use Rattle.esc_rows.specs.Rows.{Point, combination, RowHolds}
use Rattle.esc_rows.proofs.Combinations.{zero-*ℚ, +ℚ_interchange, combination-set, combination-plus_multiple}
use Rattle.esc_tableau.specs.Changes.{Sum, sum, start_sum, plus_owner, plus_part, plus_parts, parts_value, with_row, with_column, free_owner}
use Rattle.esc_tableau.specs.Table.{Table, IsTable, IsSolution, nobody, size, unknowns, owner, row_entries, row_constant, row_of, column_of}
use Rattle.esc_tableau.specs.declared.changing.Part.{Part}
use Rattle.esc_tableau.proofs.ChangeLaws.{plus_part_wide}
use Rattle.esc_tableau.proofs.Places.{owner-row_of, column-column_of, row_where_no_column}

-- what a sum is at a point
abbrev value : Point → Table → Sum → ℚ
value v t s = combination v s.entries (unknowns t.columns) +ℚ s.constant

combination-zeros : (v : Point) (n : ℕ) (cs : List ℕ) → combination v (replicate n zero_ℚ) cs
    ≡ zero_ℚ
combination-zeros v zero cs = refl
combination-zeros v (suc n) [] = refl
combination-zeros v (suc n) (c ∷ cs) = ap₂ (λ x y. x +ℚ y) (zero-*ℚ (v c))
    (combination-zeros v n cs) ∙ zero-+ℚ zero_ℚ

module _ (v : Point) (t : Table) (ok : IsTable t) (holds : IsSolution t v) where
  named : (s : Sum) → length s.entries ≡ length t.columns → length s.entries
      ≡ length (unknowns t.columns)
  named s wide = wide ∙ sym (length-map t.columns (λ o. o.unknown))

  value-column : (s : Sum) (p : Part) → length s.entries ≡ length t.columns → column_of t p.unknown
      < length t.columns → value v t (sum (set s.entries (column_of t p.unknown)
      (get_or s.entries (column_of t p.unknown) zero_ℚ +ℚ p.factor)) s.constant)
      ≡ p.factor *ℚ v p.unknown +ℚ value v t s
  value-column s p wide inside =
      let c : ℕ = column_of t p.unknown in
      let cs : List ℕ = unknowns t.columns in
      let e : ℚ = get_or s.entries c zero_ℚ in
      let x : ℚ = v p.unknown in
      let f : ℚ = p.factor in
      let at : get_or cs c 0 ≡ p.unknown = get_or-map (λ o. o.unknown) t.columns c nobody 0 inside
      ∙ column-column_of t ok p.unknown inside in
      let set_back : set cs c p.unknown ≡ cs = ap (set cs c) (sym at) ∙ set-get_or cs c 0 in
      let replaced = combination-set v s.entries cs c (e +ℚ f) p.unknown (omega (arith, wide))
      (named s wide) in
      let new : ℚ = combination v (set s.entries c (e +ℚ f)) cs in
      let old : ℚ = combination v s.entries cs in
      let moved : new +ℚ e *ℚ x ≡ (f *ℚ x +ℚ old) +ℚ e *ℚ x =
      ap₂ (λ (ks : List ℕ) (u : ℕ). combination v (set s.entries c (e +ℚ f)) ks +ℚ e *ℚ v u)
      (sym set_back) (sym at)
      ∙ replaced
      ∙ ap (λ y. old +ℚ y) (+ℚ-*ℚ e f x ∙ +ℚ_comm (e *ℚ x) (f *ℚ x))
      ∙ sym (+ℚ_assoc old (f *ℚ x) (e *ℚ x))
      ∙ ap (λ y. y +ℚ e *ℚ x) (+ℚ_comm old (f *ℚ x)) in
      ap (λ y. y +ℚ s.constant) (+ℚ_cancel new (f *ℚ x +ℚ old) (e *ℚ x) moved)
      ∙ +ℚ_assoc (f *ℚ x) old s.constant

  value-owner : (s : Sum) (p : Part) → length s.entries ≡ length t.columns → row_of t p.unknown
      < length t.owners → value v t (plus_owner t s p.factor (row_of t p.unknown))
      ≡ p.factor *ℚ v p.unknown +ℚ value v t s
  value-owner s p wide row =
      let r : ℕ = row_of t p.unknown in
      let cs : List ℕ = unknowns t.columns in
      let f : ℚ = p.factor in
      let own : ℚ = combination v (row_entries t r) cs in
      let is : v p.unknown ≡ own +ℚ row_constant t r = ap v (sym (owner-row_of t ok p.unknown row))
      ∙ holds r row in
      ap (λ y. y +ℚ (s.constant +ℚ f *ℚ row_constant t r))
      (combination-plus_multiple v f s.entries (row_entries t r) cs (named s wide)
      (ok.width r row ∙ sym (length-map t.columns (λ o. o.unknown))))
      ∙ +ℚ_interchange (combination v s.entries cs) (f *ℚ own) s.constant (f *ℚ row_constant t r)
      ∙ ap (λ y. value v t s +ℚ y) (sym (*ℚ-+ℚ f own (row_constant t r))
      ∙ ap (λ y. f *ℚ y) (sym is))
      ∙ +ℚ_comm (value v t s) (f *ℚ v p.unknown)

  value-part : (s : Sum) (p : Part) → p.unknown < size t → length s.entries ≡ length t.columns
      → value v t (plus_part t s p) ≡ p.factor *ℚ v p.unknown +ℚ value v t s
  value-part s p below wide = go (nat_lt (column_of t p.unknown) (length t.columns)) refl
    where
      go : (b : Bool) → nat_lt (column_of t p.unknown) (length t.columns) ≡ b
          → value v t (plus_part t s p) ≡ p.factor *ℚ v p.unknown +ℚ value v t s
      go true e = ap (value v t) (cond-true (nat_lt (column_of t p.unknown) (length t.columns)) _ _
          e) ∙ value-column s p wide (ltb-true _ _ e)
      go false e = ap (value v t) (cond-false (nat_lt (column_of t p.unknown) (length t.columns)) _
          _ e) ∙ value-owner s p wide (row_where_no_column t ok p.unknown below (ltb-false _ _ e))

  value-parts : (s : Sum) (ps : List Part) → All (λ p. p.unknown < size t) ps → length s.entries
      ≡ length t.columns → value v t (plus_parts t s ps) ≡ parts_value v ps +ℚ value v t s
  value-parts s [] below wide = sym (zero-+ℚ (value v t s))
  value-parts s (p ∷ ps) below wide =
      let first = All-head (λ q. q.unknown < size t) p ps below in
      value-parts (plus_part t s p) ps (All-tail (λ q. q.unknown < size t) p ps below)
      (plus_part_wide t s p ok first wide)
      ∙ ap (λ y. parts_value v ps +ℚ y) (value-part s p first wide)
      ∙ sym (+ℚ_assoc (parts_value v ps) (p.factor *ℚ v p.unknown) (value v t s))
      ∙ ap (λ y. y +ℚ value v t s) (+ℚ_comm (parts_value v ps) (p.factor *ℚ v p.unknown))

  pub value-whole : (ps : List Part) (k : ℚ) → All (λ p. p.unknown < size t) ps
      → value v t (plus_parts t (start_sum t k) ps) ≡ parts_value v ps +ℚ k
  value-whole ps k below =
      value-parts (start_sum t k) ps below (length-replicate (length t.columns) zero_ℚ)
      ∙ ap (λ y. parts_value v ps +ℚ y) (ap (λ y. y
      +ℚ k) (combination-zeros v (length t.columns) (unknowns t.columns)) ∙ zero-+ℚ k)

-- ---- the solutions with the new row

module _ (v : Point) (t : Table) (ok : IsTable t) (s : Sum) where
  old_row : (r : ℕ) → r < length t.owners → owner (with_row t s) r ≡ owner t r
  old_row r row = ap (λ o. o.unknown) (get_or_append_left t.owners (free_owner (size t)
      ∷ []) nobody r row)

  old_entries : (r : ℕ) → r < length t.owners → row_entries (with_row t s) r ≡ row_entries t r
  old_entries r row = get_or_append_left t.entries (s.entries ∷ []) [] r (omega (arith, ok.rows))

  old_constant : (r : ℕ) → r < length t.owners → row_constant (with_row t s) r ≡ row_constant t r
  old_constant r row = get_or_append_left t.constants (s.constant ∷ []) zero_ℚ r
      (omega (arith, ok.constants))

  new_owner : owner (with_row t s) (length t.owners) ≡ size t
  new_owner = ap (λ o. o.unknown) (get_or_push t.owners (free_owner (size t)) nobody
      (length t.owners) refl)

  new_value : combination v (row_entries (with_row t s) (length t.owners)) (unknowns t.columns)
      +ℚ row_constant (with_row t s) (length t.owners)
      ≡ combination v s.entries (unknowns t.columns) +ℚ s.constant
  new_value = ap₂ (λ es k. combination v es (unknowns t.columns)
      +ℚ k) (get_or_push t.entries s.entries [] (length t.owners) ok.rows)
      (get_or_push t.constants s.constant zero_ℚ (length t.owners) ok.constants)

  pub row_left : IsSolution (with_row t s) v → IsSolution t v
  row_left holds r row =
      ap v (sym (old_row r row)) ∙ holds r (omega (
        arith,
        length_push t.owners
            (free_owner (size t)),
      ))
      ∙ ap₂ (λ es k. combination v es (unknowns t.columns) +ℚ k) (old_entries r row)
      (old_constant r row)

  pub row_new : IsSolution (with_row t s) v → v (size t)
      ≡ combination v s.entries (unknowns t.columns) +ℚ s.constant
  row_new holds = ap v (sym new_owner) ∙ holds (length t.owners)
      (omega (arith, length_push t.owners (free_owner (size t)))) ∙ new_value

  pub row_both : IsSolution t v → v (size t) ≡ combination v s.entries (unknowns t.columns)
      +ℚ s.constant → IsSolution (with_row t s) v
  row_both holds is r row = go (cases_lt r (length t.owners))
    where
      go : (r < length t.owners) ⊎ (length t.owners ≤ r)
          → RowHolds v (unknowns t.columns) (owner (with_row t s) r) (row_entries (with_row t s) r)
          (row_constant (with_row t s) r)
      go (inl h) = ap v (old_row r h) ∙ holds r h ∙ sym
          (ap₂ (λ es k. combination v es (unknowns t.columns) +ℚ k) (old_entries r h)
          (old_constant r h))
      go (inr h) =
          let here : length t.owners ≡ r = omega (
            arith,
            row,
            length_push t.owners
                (free_owner (size t)),
          ) in
          subst (λ (i : ℕ). RowHolds v (unknowns t.columns) (owner (with_row t s) i)
          (row_entries (with_row t s) i) (row_constant (with_row t s) i)) here (ap v new_owner
          ∙ is ∙ sym new_value)

-- ---- and with the new column

combination-push : (v : Point) (es : List ℚ) (cs : List ℕ) (c : ℕ) → length es ≡ length cs
    → combination v (es ++ zero_ℚ ∷ []) (cs ++ c ∷ []) ≡ combination v es cs
combination-push v [] [] c l = ap (λ x. x +ℚ zero_ℚ) (zero-*ℚ (v c)) ∙ zero-+ℚ zero_ℚ
combination-push v [] (k ∷ cs) c l = absurd (omega arith)
combination-push v (e ∷ es) [] c l = absurd (omega arith)
combination-push v (e ∷ es) (k ∷ cs) c l = ap (λ x. e *ℚ v k
    +ℚ x) (combination-push v es cs c (omega arith))

module _ (v : Point) (t : Table) (ok : IsTable t) (r : ℕ) (row : r < length t.owners) where
  wider_value : combination v (row_entries (with_column t) r) (unknowns (with_column t).columns)
      ≡ combination v (row_entries t r) (unknowns t.columns)
  wider_value =
      ap₂ (λ es cs. combination v es cs) (get_or-map (λ es. es ++ zero_ℚ ∷ []) t.entries r [] []
      (omega (arith, ok.rows))) (map-append (λ o. o.unknown) t.columns
      (free_owner (size t) ∷ []))
      ∙ combination-push v (row_entries t r) (unknowns t.columns) (size t) (ok.width r row
      ∙ sym (length-map t.columns (λ o. o.unknown)))

pub column_more : (v : Point) (t : Table) → IsTable t → IsSolution t v
    → IsSolution (with_column t) v
column_more v t ok holds r row = holds r row ∙ ap (λ x. x +ℚ row_constant t r)
    (sym (wider_value v t ok r row))

pub column_less : (v : Point) (t : Table) → IsTable t → IsSolution (with_column t) v
    → IsSolution t v
column_less v t ok holds r row = holds r row ∙ ap (λ x. x +ℚ row_constant t r)
    (wider_value v t ok r row)
