-- What the rows' owners and the sample do along a move.
use Rattle.std.proofs.Common.{◌≡◌, ◌≢◌, ◌⊎◌, inl, inr, ℕ, zero, suc, ◌<◌, ◌≤◌, true, false, List, [], ◌∷◌, length, get_or, refl, sym, ap, ap₂, ◌∙◌, subst, arith, eqb-true, length-set}
use Rattle.std.specs.List.{count_by}
use Rattle.std.proofs.lemmas.Bool.{cases_Bool, cases_eq, cases_lt, and_parts, and_from, cond-true, cond-false, eq-eqb, ne_eqb, lt-ltb, le-ltb}
use Rattle.std.proofs.lemmas.List.{length-map, get_or-map}
use Rattle.esc_frac.specs.Rational.{ℚ, zero_ℚ, one_ℚ, ◌+ℚ◌, ◌*ℚ◌, inverse_ℚ, ◌≤ℚ◌}
use Rattle.esc_frac.specs.Sign.{sign_of}
use Rattle.esc_frac.proofs.FieldLaws.{+ℚ_comm, +ℚ-zero, zero-+ℚ, *ℚ_comm, *ℚ-one, *ℚ-zero}
use Rattle.esc_frac.proofs.OrderLaws.{≤ℚ_refl}
use Rattle.esc_rows.specs.Rows.{Point, combination, solved_constant}
use Rattle.esc_rows.proofs.Combinations.{zero-*ℚ}
use Rattle.esc_tableau.specs.Table.{Table, IsTable, IsSolution, IsWithin, IsRestricted, nobody, unknowns, owner, column, entry, row_entries, row_constant, row_of, column_of, sample, is_marked, pivoted}
use Rattle.esc_tableau.specs.Rule.{slope, absolute, is_against, falls, ratio}
use Rattle.esc_tableau.specs.declared.owner.Owner.{Owner}
use Rattle.esc_tableau.specs.declared.rule.Move.{Move}
use Rattle.esc_tableau.proofs.Counting.{count_at, place_counts}
use Rattle.esc_tableau.proofs.Orders.{sum_nonnegative, product_nonnegative, inverse_nonnegative}
use Rattle.esc_tableau.proofs.Pivoted.{IsTable-pivoted, whole_owner-at_row, whole_owner-at_other, constant-at_row, constant-at_other}
use Rattle.esc_tableau.proofs.Places.{row_of-owner, column_of-column, no_row-column}
use Rattle.esc_tableau.proofs.SampleLaws.{combination-zero, sample-owner, sample-column}
use Rattle.esc_tableau.proofs.Signs.{push, push-*ℚ, push_nonnegative, falls_signs, stays_above}

-- ---- where a restricted unknown stands

pub record RestrictedRow (t : Table) (u : ℕ) : Type 0 where
  pub row : ℕ
  pub inside : row < length t.owners
  pub is : owner t row ≡ u
  pub marked : (get_or t.owners row nobody).restricted ≡ true

pub record RestrictedColumn (t : Table) (u : ℕ) : Type 0 where
  pub place : ℕ
  pub inside : place < length t.columns
  pub is : column t place ≡ u
  pub marked : (get_or t.columns place nobody).restricted ≡ true

pub restricted_place : (t : Table) (u : ℕ) → IsRestricted t u → RestrictedRow t u
    ⊎ RestrictedColumn t u
restricted_place t u h = go (cases_lt 0 (count_by (is_marked u) t.owners))
  where
    go : (0 < count_by (is_marked u) t.owners) ⊎ (count_by (is_marked u) t.owners ≤ 0)
        → RestrictedRow t u ⊎ RestrictedColumn t u
    go (inl k) =
        let at = place_counts (is_marked u) t.owners nobody k in
        let parts = and_parts _ _ at.2 in inl (record
        { row = at.0; inside = at.1; is = eqb-true _ u parts.0; marked = parts.1 })
    go (inr k) =
        let at = place_counts (is_marked u) t.columns nobody (omega arith) in
        let parts = and_parts _ _ at.2 in inr (record
        { place = at.0; inside = at.1; is = eqb-true _ u parts.0; marked = parts.1 })

pub restricted_owner : (t : Table) (r : ℕ) → r < length t.owners
    → (get_or t.owners r nobody).restricted ≡ true → IsRestricted t (owner t r)
restricted_owner t r inside marked =
    let some = count_at (is_marked (owner t r)) t.owners r nobody inside
    (and_from _ _ (eq-eqb (owner t r) (owner t r) refl) marked) in
    omega arith

pub restricted_column : (t : Table) (c : ℕ) → c < length t.columns
    → (get_or t.columns c nobody).restricted ≡ true → IsRestricted t (column t c)
restricted_column t c inside marked =
    let some = count_at (is_marked (column t c)) t.columns c nobody inside
    (and_from _ _ (eq-eqb (column t c) (column t c) refl) marked) in
    omega arith

-- ---- a row along a move

pub falls_parts : (t : Table) (m : Move) (r : ℕ) → falls t m r ≡ true
    → ((get_or t.owners r nobody).restricted ≡ true)
    × (is_against m.up (sign_of (entry t r m.column).num) ≡ true)
falls_parts t m r down = and_parts (get_or t.owners r nobody).restricted
    (is_against m.up (sign_of (entry t r m.column).num)) down

-- no restricted row's owner falls below 0 where the move ends at the least ratio at most
pub rows_stay : (t : Table) (ok : IsTable t) (m : Move) (d : ℚ) → IsWithin t (sample t)
    → zero_ℚ ≤ℚ d → ((i : ℕ) → i < length t.owners → falls t m i ≡ true → d ≤ℚ ratio t m i)
    → (i : ℕ) → i < length t.owners → (get_or t.owners i nobody).restricted ≡ true
    → zero_ℚ ≤ℚ row_constant t i +ℚ entry t i m.column *ℚ push m.up d
rows_stay t ok m d within some least i inside marked = go
    (cases_Bool (is_against m.up (sign_of (entry t i m.column).num)))
  where
    above : zero_ℚ ≤ℚ row_constant t i
    above = subst (λ (x : ℚ). zero_ℚ ≤ℚ x) (sample-owner t ok i inside)
        (within (owner t i) (restricted_owner t i inside marked))

    go : (is_against m.up (sign_of (entry t i m.column).num) ≡ true)
        ⊎ (is_against m.up (sign_of (entry t i m.column).num) ≡ false) → zero_ℚ ≤ℚ row_constant t i
        +ℚ entry t i m.column *ℚ push m.up d
    go (inl down) =
        let signs = falls_signs m.up (entry t i m.column) down in
        subst (λ (x : ℚ). zero_ℚ ≤ℚ row_constant t i +ℚ x) (ap (λ x. x *ℚ d) (sym signs.pushed)
        ∙ sym (push-*ℚ m.up (entry t i m.column) d))
        (stays_above (absolute (entry t i m.column)) (row_constant t i) d signs.whole signs.size
        (least i inside (and_from _ _ marked down)))
    go (inr stays) =
        subst (λ (x : ℚ). zero_ℚ ≤ℚ row_constant t i
        +ℚ x) (sym (push-*ℚ m.up (entry t i m.column) d))
        (sum_nonnegative (row_constant t i) (push m.up (entry t i m.column) *ℚ d) above
        (product_nonnegative (push m.up (entry t i m.column)) d
        (push_nonnegative m.up (entry t i m.column) stays) some))

-- ---- the point along a column

-- the sample, but for the unknown of column c, which is d there
abbrev pub along : Table → ℕ → ℚ → Point
along t c d w = sample t w +ℚ slope t w c *ℚ d

pub slope-owner : (t : Table) (ok : IsTable t) (r c : ℕ) → r < length t.owners
    → slope t (owner t r) c ≡ entry t r c
slope-owner t ok r c row =
    let here = row_of-owner t ok r row in
    cond-true _ (entry t (row_of t (owner t r)) c) _
    (lt-ltb _ _ (subst (λ (k : ℕ). k < length t.owners) (sym here) row))
    ∙ ap (λ (k : ℕ). entry t k c) here

pub slope-column_same : (t : Table) (ok : IsTable t) (c : ℕ) → c < length t.columns
    → slope t (column t c) c ≡ one_ℚ
slope-column_same t ok c inside =
    cond-false _ (entry t (row_of t (column t c)) c) _ (le-ltb _ _ (no_row-column t ok c inside))
    ∙ cond-true _ one_ℚ zero_ℚ (eq-eqb (column t c) (column t c) refl)

pub slope-column_other : (t : Table) (ok : IsTable t) (c j : ℕ) → c < length t.columns → j
    < length t.columns → j ≢ c → slope t (column t j) c ≡ zero_ℚ
slope-column_other t ok c j inside within other =
    cond-false _ (entry t (row_of t (column t j)) c) _ (le-ltb _ _ (no_row-column t ok j within))
    ∙ cond-false _ one_ℚ zero_ℚ (ne_eqb (column t c) (column t j)
    (λ e. other (sym (column_of-column t ok j within) ∙ ap (column_of t) (sym e)
    ∙ column_of-column t ok c inside)))

pub along-column_same : (t : Table) (ok : IsTable t) (c : ℕ) (d : ℚ) → c < length t.columns
    → along t c d (column t c) ≡ d
along-column_same t ok c d inside =
    ap₂ (λ x y. x +ℚ y *ℚ d) (sample-column t ok c inside) (slope-column_same t ok c inside)
    ∙ zero-+ℚ (one_ℚ *ℚ d) ∙ *ℚ_comm one_ℚ d ∙ *ℚ-one d

pub along-column_other : (t : Table) (ok : IsTable t) (c j : ℕ) (d : ℚ) → c < length t.columns → j
    < length t.columns → j ≢ c → along t c d (column t j) ≡ zero_ℚ
along-column_other t ok c j d inside within other =
    ap₂ (λ x y. x +ℚ y *ℚ d) (sample-column t ok j within)
    (slope-column_other t ok c j inside within other)
    ∙ zero-+ℚ (zero_ℚ *ℚ d) ∙ zero-*ℚ d

-- where one column's unknown is not 0, the sum is its entry times it
combination-one : (v : Point) (es : List ℚ) (cs : List ℕ) (c : ℕ) (x : ℚ) → c < length cs
    → length es ≡ length cs → v (get_or cs c 0) ≡ x
    → ((j : ℕ) → j < length cs → j ≢ c → v (get_or cs j 0) ≡ zero_ℚ) → combination v es cs
    ≡ get_or es c zero_ℚ *ℚ x
combination-one v [] [] c x h l is zeros = absurd (omega arith)
combination-one v [] (k ∷ cs) c x h l is zeros = absurd (omega arith)
combination-one v (e ∷ es) [] c x h l is zeros = absurd (omega arith)
combination-one v (e ∷ es) (k ∷ cs) zero x h l is zeros =
    ap₂ (λ y z. e *ℚ y +ℚ z) is (combination-zero v es cs
    (λ j inside. zeros (suc j) (omega arith) (omega arith))) ∙ +ℚ-zero (e *ℚ x)
combination-one v (e ∷ es) (k ∷ cs) (suc c) x h l is zeros =
    ap₂ (λ y z. e *ℚ y +ℚ z) (zeros 0 (omega arith) (omega arith))
    (combination-one v es cs c x (omega arith) (omega arith) is
    (λ j inside other. zeros (suc j) (omega arith) (omega arith)))
    ∙ ap (λ y. y +ℚ get_or es c zero_ℚ *ℚ x) (*ℚ-zero e) ∙ zero-+ℚ (get_or es c zero_ℚ *ℚ x)

pub IsSolution-along : (t : Table) (ok : IsTable t) (c : ℕ) (d : ℚ) → c < length t.columns
    → IsSolution t (along t c d)
IsSolution-along t ok c d inside r row =
    ap₂ (λ x y. x +ℚ y *ℚ d) (sample-owner t ok r row) (slope-owner t ok r c row)
    ∙ +ℚ_comm (row_constant t r) (entry t r c *ℚ d)
    ∙ ap (λ x. x +ℚ row_constant t r) (sym (combination-one (along t c d) (row_entries t r)
    (unknowns t.columns) c d within width here others))
  where
    within : c < length (unknowns t.columns)
    within = omega (arith, length-map t.columns (λ o. o.unknown))

    width : length (row_entries t r) ≡ length (unknowns t.columns)
    width = ok.width r row ∙ sym (length-map t.columns (λ o. o.unknown))

    named : (j : ℕ) → j < length t.columns → get_or (unknowns t.columns) j 0 ≡ column t j
    named j h = get_or-map (λ o. o.unknown) t.columns j nobody 0 h

    here : along t c d (get_or (unknowns t.columns) c 0) ≡ d
    here = ap (along t c d) (named c inside) ∙ along-column_same t ok c d inside

    others : (j : ℕ) → j < length (unknowns t.columns) → j ≢ c
        → along t c d (get_or (unknowns t.columns) j 0) ≡ zero_ℚ
    others j h other =
        let lies : j < length t.columns = omega (arith, length-map t.columns (λ o. o.unknown)) in
        ap (along t c d) (named j lies) ∙ along-column_other t ok c j d inside lies other

-- within the restrictions, as far as the least ratio
pub IsWithin-along : (t : Table) (ok : IsTable t) (m : Move) (d : ℚ) → m.column < length t.columns
    → IsWithin t (sample t) → zero_ℚ ≤ℚ d → ((get_or t.columns m.column nobody).restricted ≡ true
    → m.up ≡ true) → ((i : ℕ) → i < length t.owners → falls t m i ≡ true → d ≤ℚ ratio t m i)
    → IsWithin t (along t m.column (push m.up d))
IsWithin-along t ok m d inside within some rising least u h = go (restricted_place t u h)
  where
    go : RestrictedRow t u ⊎ RestrictedColumn t u → zero_ℚ ≤ℚ along t m.column (push m.up d) u
    go (inl at) =
        subst (λ (x : ℕ). zero_ℚ ≤ℚ along t m.column (push m.up d) x) at.is
        (subst (λ (x : ℚ). zero_ℚ ≤ℚ x) (sym (ap₂ (λ x y. x +ℚ y *ℚ push m.up d)
        (sample-owner t ok at.row at.inside) (slope-owner t ok at.row m.column at.inside)))
        (rows_stay t ok m d within some least at.row at.inside at.marked))
    go (inr at) = subst (λ (x : ℕ). zero_ℚ ≤ℚ along t m.column (push m.up d) x) at.is
        (column_stays at.place at.inside at.marked (cases_eq at.place m.column))
      where
        column_stays : (j : ℕ) → j < length t.columns → (get_or t.columns j nobody).restricted
            ≡ true → (j ≡ m.column) ⊎ (j ≢ m.column)
            → zero_ℚ ≤ℚ along t m.column (push m.up d) (column t j)
        column_stays j lies marked (inl e) =
            let up = rising (ap (λ (k : ℕ). (get_or t.columns k nobody).restricted) (sym e)
            ∙ marked) in
            subst (λ (x : ℚ). zero_ℚ ≤ℚ x) (sym (ap
            (λ (k : ℕ). along t m.column (push m.up d) (column t k)) e
            ∙ along-column_same t ok m.column (push m.up d) inside ∙ ap (λ b. push b d) up))
            some
        column_stays j lies marked (inr other) =
            subst (λ (x : ℚ). zero_ℚ ≤ℚ x) (sym (along-column_other t ok m.column j (push m.up d)
            inside lies other)) (≤ℚ_refl zero_ℚ)

-- and so is the sample after a pivot at the row of least ratio
pub IsWithin-after : (t : Table) (ok : IsTable t) (m : Move) (r : ℕ) → r < length t.owners
    → m.column < length t.columns → IsWithin t (sample t)
    → ((get_or t.columns m.column nobody).restricted ≡ true → m.up ≡ true) → falls t m r ≡ true
    → ((i : ℕ) → i < length t.owners → falls t m i ≡ true → ratio t m r ≤ℚ ratio t m i)
    → IsWithin (pivoted t r m.column) (sample (pivoted t r m.column))
IsWithin-after t ok m r row inside within rising down least u h = go
    (restricted_place (pivoted t r m.column) u h)
  where
    fine : IsTable (pivoted t r m.column)
    fine = IsTable-pivoted t ok r m.column row inside

    some : zero_ℚ ≤ℚ ratio t m r
    some =
        product_nonnegative (row_constant t r) (inverse_ℚ (absolute (entry t r m.column)))
        (subst (λ (x : ℚ). zero_ℚ ≤ℚ x) (sample-owner t ok r row)
        (within (owner t r) (restricted_owner t r row (falls_parts t m r down).0)))
        (inverse_nonnegative (absolute (entry t r m.column))
        (falls_signs m.up (entry t r m.column) (falls_parts t m r down).1).size)

    moved : solved_constant (row_entries t r) m.column (row_constant t r) ≡ push m.up (ratio t m r)
    moved = (falls_signs m.up (entry t r m.column) (falls_parts t m r down).1).inverse
        (row_constant t r)

    row_stays : (i : ℕ) → i < length t.owners → (get_or (pivoted t r m.column).owners i
        nobody).restricted ≡ true → (i ≡ r) ⊎ (i ≢ r)
        → zero_ℚ ≤ℚ row_constant (pivoted t r m.column) i
    row_stays i lies marked (inl e) =
        let up = rising (ap (λ (o : Owner). o.restricted)
        (sym (whole_owner-at_row t ok r m.column row inside))
        ∙ ap (λ (k : ℕ). (get_or (pivoted t r m.column).owners k nobody).restricted) (sym e)
        ∙ marked) in
        subst (λ (x : ℚ). zero_ℚ ≤ℚ x) (sym (ap (row_constant (pivoted t r m.column)) e
        ∙ constant-at_row t ok r m.column row inside ∙ moved
        ∙ ap (λ b. push b (ratio t m r)) up)) some
    row_stays i lies marked (inr other) =
        subst (λ (x : ℚ). zero_ℚ ≤ℚ x) (sym (constant-at_other t ok r m.column row inside i lies
        other ∙ ap (λ x. row_constant t i +ℚ entry t i m.column *ℚ x) moved))
        (rows_stay t ok m (ratio t m r) within some least i lies
        (ap (λ (o : Owner). o.restricted) (sym
        (whole_owner-at_other t ok r m.column row inside i other)) ∙ marked))

    go : RestrictedRow (pivoted t r m.column) u ⊎ RestrictedColumn (pivoted t r m.column) u
        → zero_ℚ ≤ℚ sample (pivoted t r m.column) u
    go (inl at) =
        subst (λ (x : ℕ). zero_ℚ ≤ℚ sample (pivoted t r m.column) x) at.is
        (subst (λ (x : ℚ). zero_ℚ ≤ℚ x) (sym (sample-owner (pivoted t r m.column) fine at.row
        at.inside))
        (row_stays at.row (omega (
          arith,
          at.inside,
          length-set t.owners r
              (get_or t.columns m.column nobody),
        )) at.marked (cases_eq at.row r)))
    go (inr at) =
        subst (λ (x : ℕ). zero_ℚ ≤ℚ sample (pivoted t r m.column) x) at.is
        (subst (λ (x : ℚ). zero_ℚ ≤ℚ x) (sym (sample-column (pivoted t r m.column) fine at.place
        at.inside)) (≤ℚ_refl zero_ℚ))
