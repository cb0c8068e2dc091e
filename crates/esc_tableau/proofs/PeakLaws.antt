-- What is known where the rule stops, and after its pivot.
use Rattle.std.proofs.Common.{◌≡◌, ◌≢◌, ◌⊎◌, inl, inr, ℕ, suc, ◌<◌, Bool, true, false, List, [], ◌∷◌, Option, Some, None, length, get_or, pos, refl, sym, ap, ◌∙◌, subst, arith}
use Rattle.std.proofs.lemmas.Int.{ints}
use Rattle.std.proofs.lemmas.Bool.{cond-true, cond-false}
use Rattle.std.proofs.lemmas.List.{length-map, get_or-map}
use Rattle.esc_frac.specs.Rational.{ℚ, zero_ℚ, one_ℚ, ◌+ℚ◌, neg_ℚ, ◌*ℚ◌, inverse_ℚ, ◌/ℚ◌, ◌≤ℚ◌, ◌<ℚ◌}
use Rattle.esc_frac.specs.RationalLaws.{zero_from_num}
use Rattle.esc_frac.specs.Sign.{sign_of}
use Rattle.esc_frac.specs.declared.frac.Sign.{Sign}
use Rattle.esc_frac.specs.declared.frac.Sign.TheVariants.{Negative, Zero, Positive as Above}
use Rattle.esc_frac.proofs.FieldLaws.{+ℚ_comm, zero-+ℚ, +ℚ-neg_ℚ, *ℚ_comm, *ℚ_assoc, *ℚ-one, *ℚ-inverse_ℚ, neg_ℚ-*ℚ}
use Rattle.esc_frac.proofs.OrderLaws.{≤ℚ_refl, ≤ℚ_trans, ≤ℚ-+ℚ, zero-≤ℚ}
use Rattle.esc_rows.specs.Rows.{Point, combination}
use Rattle.esc_rows.proofs.Combinations.{zero-*ℚ}
use Rattle.esc_tableau.specs.Table.{Table, IsTable, IsSolution, IsWithin, OwnsRow, OwnsColumn, nobody, unknowns, size, owner, column, entry, row_entries, row_constant, row_of, column_of, sample, pivoted}
use Rattle.esc_tableau.specs.Rule.{is_positive, is_above, is_against, slope, absolute, improving, entering, falls, bounding, leaving, next, next_by_move, next_by_row}
use Rattle.esc_tableau.specs.Run.{IsGreatest, GrowsAlong, PeakHolds}
use Rattle.esc_tableau.specs.declared.answers.Peak.{Peak}
use Rattle.esc_tableau.specs.declared.answers.Peak.TheVariants.{NotPositive, Positive}
use Rattle.esc_tableau.specs.declared.rule.Move.{Move}
use Rattle.esc_tableau.specs.declared.rule.Next.{Next}
use Rattle.esc_tableau.specs.declared.rule.Next.TheVariants.{Stops, Pivots}
use Rattle.esc_tableau.proofs.MoveLaws.{falls_parts, restricted_column, along, slope-owner, slope-column_same, along-column_other, IsSolution-along, IsWithin-along, IsWithin-after}
use Rattle.esc_tableau.proofs.Orders.{sign_above, sign_negative, sign_zero, negative_nonnegative, product_nonnegative, inverse_nonnegative}
use Rattle.esc_tableau.proofs.Places.{row_of-owner, column_of-column, owner-row_of, column-column_of, owner_below, column_below, owns_one}
use Rattle.esc_tableau.proofs.RuleLaws.{first_none, first_some, Improves, improving_some, improving_none, Bounds, bounding_some, bounding_row, least_none, Leaves, least_some}
use Rattle.esc_tableau.proofs.SampleLaws.{sample-column}
use Rattle.esc_tableau.proofs.Signs.{push, push-*ℚ, falls_signs, neg_neg}

-- ---- which move enters

pub record Enters (t : Table) (u : ℕ) (m : Move) : Type 0 where
  pub inside : m.column < length t.columns
  pub rising : (get_or t.columns m.column nobody).restricted ≡ true → m.up ≡ true
  pub size : zero_ℚ ≤ℚ push m.up (slope t u m.column)
  pub some : (push m.up (slope t u m.column)).num ≢ pos 0

pub entering_some : (t : Table) (u : ℕ) (m : Move) → entering t u ≡ Some m → Enters t u m
entering_some t u m e =
    let at = first_some (improving t u) (size t) m e in
    go at.0 (improving_some t u at.0 m at.2)
  where
    go : (w : ℕ) → Improves t u w m → Enters t u m
    go w h = by_sign h.directed.sign
      where
        c : m.column ≡ column_of t w
        c = h.directed.column

        inside : m.column < length t.columns
        inside = subst (λ (k : ℕ). k < length t.columns) (sym h.directed.column) h.owns

        slopes : sign_of (slope t u m.column).num ≡ sign_of (slope t u (column_of t w)).num
        slopes = ap (λ (k : ℕ). sign_of (slope t u k).num) h.directed.column

        by_sign : ((sign_of (slope t u (column_of t w)).num ≡ Above) × (m.up ≡ true))
            ⊎ ((sign_of (slope t u (column_of t w)).num ≡ Negative)
            × ((get_or t.columns (column_of t w) nobody).restricted ≡ false) × (m.up ≡ false))
            → Enters t u m
        by_sign (inl k) =
            let n = sign_above (slope t u m.column).num (slopes ∙ k.0) in
            let some : (slope t u m.column).num ≢ pos 0 = λ z. omega (arith, ints) in record {
              inside = inside;
              rising = λ r. k.1;
              size = subst (λ (b : Bool). zero_ℚ ≤ℚ push b (slope t u m.column)) (sym k.1)
                  (zero-≤ℚ (slope t u m.column) (omega (arith, ints)));
              some = subst (λ (b : Bool). (push b (slope t u m.column)).num ≢ pos 0) (sym k.1) some;
            }
        by_sign (inr k) =
            let n = sign_negative (slope t u m.column).num (slopes ∙ k.0) in
            let down = falls_signs true (slope t u m.column) (ap (is_against true) (slopes ∙ k.0))
            in
            let turned : push m.up (slope t u m.column) ≡ absolute (slope t u m.column) =
            ap (λ b. push b (slope t u m.column)) k.2 ∙ ap neg_ℚ down.pushed
            ∙ neg_neg (absolute (slope t u m.column)) in record {
              inside = inside;
              rising = λ r. let free = ap (λ (j : ℕ). (get_or t.columns j nobody).restricted)
                  h.directed.column ∙ k.1 in cc;
              size = subst (λ (x : ℚ). zero_ℚ ≤ℚ x) (sym turned) down.size;
              some = subst (λ (x : ℚ). x.num ≢ pos 0) (sym turned) down.whole;
            }

-- ---- no column enters

pub not_positive : (q : ℚ) → is_positive q ≡ false → q ≤ℚ zero_ℚ
not_positive q h = go (sign_of q.num) refl h
  where
    go : (s : Sign) → sign_of q.num ≡ s → is_above s ≡ false → q ≤ℚ zero_ℚ
    go Negative e k = let n = sign_negative q.num e in omega (arith, ints)
    go Zero e k = let n = sign_zero q.num e in omega (arith, ints)
    go Above e k = cc

pub positive : (q : ℚ) → is_positive q ≡ true → zero_ℚ <ℚ q
positive q h = go (sign_of q.num) refl h
  where
    go : (s : Sign) → sign_of q.num ≡ s → is_above s ≡ true → zero_ℚ <ℚ q
    go Negative e k = cc
    go Zero e k = cc
    go Above e k = let n = sign_above q.num e in omega (arith, ints)

-- a sum whose terms are not positive
combination_low : (v : Point) (es : List ℚ) (cs : List ℕ)
    → ((j : ℕ) → j < length cs → j < length es → get_or es j zero_ℚ *ℚ v (get_or cs j 0) ≤ℚ zero_ℚ)
    → combination v es cs ≤ℚ zero_ℚ
combination_low v [] cs low = ≤ℚ_refl zero_ℚ
combination_low v (e ∷ es) [] low = ≤ℚ_refl zero_ℚ
combination_low v (e ∷ es) (c ∷ cs) low =
    let rest : combination v es cs ≤ℚ zero_ℚ = combination_low v es cs
    (λ j inside within. low (suc j) (omega arith) (omega arith)) in
    ≤ℚ_trans (e *ℚ v c +ℚ combination v es cs) (zero_ℚ +ℚ combination v es cs) zero_ℚ
    (≤ℚ-+ℚ (e *ℚ v c) zero_ℚ (combination v es cs) (low 0 (omega arith) (omega arith)))
    (subst (λ (x : ℚ). x ≤ℚ zero_ℚ) (sym (zero-+ℚ (combination v es cs))) rest)

-- a number whose negative is not negative
pub low_from_negative : (q : ℚ) → zero_ℚ ≤ℚ neg_ℚ q → q ≤ℚ zero_ℚ
low_from_negative q h = subst (λ (x : ℚ). x ≤ℚ zero_ℚ) (zero-+ℚ q)
    (subst (λ (x : ℚ). zero_ℚ +ℚ q ≤ℚ x) (+ℚ_comm (neg_ℚ q) q ∙ +ℚ-neg_ℚ q)
    (≤ℚ-+ℚ zero_ℚ (neg_ℚ q) q h))

-- a column that does not improve u adds nothing above 0
term_low : (e x : ℚ) (restricted : Bool) → (restricted ≡ true → zero_ℚ ≤ℚ x)
    → (sign_of e.num ≡ Zero) ⊎ ((sign_of e.num ≡ Negative) × (restricted ≡ true)) → e *ℚ x ≤ℚ zero_ℚ
term_low e x restricted above (inl none) =
    subst (λ (y : ℚ). y ≤ℚ zero_ℚ) (sym (ap (λ y. y *ℚ x) (zero_from_num e (sign_zero e.num none))
    ∙ zero-*ℚ x)) (≤ℚ_refl zero_ℚ)
term_low e x restricted above (inr k) =
    low_from_negative (e *ℚ x) (subst (λ (y : ℚ). zero_ℚ ≤ℚ y) (neg_ℚ-*ℚ e x)
    (product_nonnegative (neg_ℚ e) x (negative_nonnegative e (let n = sign_negative e.num k.0
    in omega (arith, ints))) (above k.1)))

pub nothing_enters : (t : Table) (ok : IsTable t) (u : ℕ) → u < size t → is_positive (sample t u)
    ≡ false → entering t u ≡ None → IsGreatest t u
nothing_enters t ok u below low none = record {
  greatest = λ v holds within. by_place v holds within
      (owns_one t ok u below);
  low = not_positive (sample t u) low;
}
  where
    stays : (j : ℕ) (inside : j < length t.columns) → (sign_of (slope t u j).num ≡ Zero)
        ⊎ ((sign_of (slope t u j).num ≡ Negative) × ((get_or t.columns j nobody).restricted ≡ true))
    stays j inside =
        let here = column_of-column t ok j inside in
        subst (λ (k : ℕ). (sign_of (slope t u k).num ≡ Zero)
        ⊎ ((sign_of (slope t u k).num ≡ Negative)
        × ((get_or t.columns k nobody).restricted ≡ true))) here
        (improving_none t u (column t j) (subst (λ (k : ℕ). k < length t.columns) (sym here) inside)
        (first_none (improving t u) (size t) none (column t j) (column_below t ok j inside)))

    by_place : (v : Point) → IsSolution t v → IsWithin t v → OwnsRow t u ⊎ OwnsColumn t u
        → v u ≤ℚ sample t u
    by_place v holds within (inr inside) =
        let here = column-column_of t ok u inside in
        let one : slope t u (column_of t u) ≡ one_ℚ = ap (λ (w : ℕ). slope t w (column_of t u))
        (sym here) ∙ slope-column_same t ok (column_of t u) inside in
        absurd (no_one (subst (λ (x : ℚ). (sign_of x.num ≡ Zero)
        ⊎ ((sign_of x.num ≡ Negative) × ((get_or t.columns (column_of t u) nobody).restricted
        ≡ true))) one (stays (column_of t u) inside)))
      where
        no_one : (sign_of one_ℚ.num ≡ Zero) ⊎ ((sign_of one_ℚ.num ≡ Negative)
            × ((get_or t.columns (column_of t u) nobody).restricted ≡ true)) → ⊥
        no_one (inl e) = cc
        no_one (inr e) = let f = e.0 in cc
    by_place v holds within (inl row) =
        let r : ℕ = row_of t u in
        let here : owner t r ≡ u = owner-row_of t ok u row in
        let sum : combination v (row_entries t r) (unknowns t.columns) ≤ℚ zero_ℚ = combination_low v
        (row_entries t r) (unknowns t.columns)
        (λ j inside h. term j (omega (arith, inside, length-map t.columns (λ o. o.unknown)))) in
        subst (λ (x : ℚ). x ≤ℚ sample t u) (sym (ap v (sym here) ∙ holds r row))
        (subst (λ (x : ℚ). combination v (row_entries t r) (unknowns t.columns)
        +ℚ row_constant t r ≤ℚ x) (zero-+ℚ (row_constant t r))
        (≤ℚ-+ℚ (combination v (row_entries t r) (unknowns t.columns)) zero_ℚ
        (row_constant t r) sum))
      where
        sloped : (j : ℕ) → slope t u j ≡ entry t (row_of t u) j
        sloped j = ap (λ (w : ℕ). slope t w j) (sym (owner-row_of t ok u row))
            ∙ slope-owner t ok (row_of t u) j row

        term : (j : ℕ) → j < length t.columns → get_or (row_entries t (row_of t u)) j zero_ℚ *ℚ v
            (get_or (unknowns t.columns) j 0) ≤ℚ zero_ℚ
        term j inside =
            term_low (entry t (row_of t u) j) (v (get_or (unknowns t.columns) j 0))
            (get_or t.columns j nobody).restricted
            (λ marked. subst (λ (w : ℕ). zero_ℚ ≤ℚ v w)
            (sym (get_or-map (λ o. o.unknown) t.columns j nobody 0 inside))
            (within (column t j) (restricted_column t j inside marked)))
            (subst (λ (x : ℚ). (sign_of x.num ≡ Zero)
            ⊎ ((sign_of x.num ≡ Negative) × ((get_or t.columns j nobody).restricted ≡ true)))
            (sloped j) (stays j inside))

-- ---- no row leaves

-- a row that falls bounds the move, by its owner
pub falls_bounds : (t : Table) (ok : IsTable t) (m : Move) (i : ℕ) → i < length t.owners → falls t m i
    ≡ true → bounding t m (owner t i) ≡ Some i
falls_bounds t ok m i inside down =
    let here = row_of-owner t ok i inside in
    bounding_row t m (owner t i) (subst (λ (k : ℕ). k < length t.owners) (sym here) inside)
    (ap (falls t m) here ∙ down) ∙ ap Some here

pub nothing_leaves : (t : Table) (ok : IsTable t) (u : ℕ) (m : Move) → IsWithin t (sample t)
    → entering t u ≡ Some m → leaving t m ≡ None → GrowsAlong t u (column t m.column)
nothing_leaves t ok u m within enters none = grows (entering_some t u m enters)
  where
    free : (i : ℕ) → i < length t.owners → falls t m i ≡ true → ⊥
    free i inside down =
        let no = least_none t m (size t) none (owner t i) (owner_below t ok i inside) in
        let yet = falls_bounds t ok m i inside down in cc

    grows : Enters t u m → GrowsAlong t u (column t m.column)
    grows h = record {
      owns = subst (λ (k : ℕ). k < length t.columns) (sym (column_of-column t ok m.column h.inside))
          h.inside;
      rises = λ rise some. (
        along t m.column (push m.up (rise /ℚ speed)),
        IsSolution-along t ok m.column (push m.up (rise /ℚ speed)) h.inside,
        IsWithin-along t ok m (rise /ℚ speed) h.inside within
            (product_nonnegative rise (inverse_ℚ speed) some (inverse_nonnegative speed h.size))
            h.rising (λ i inside down. absurd (free i inside down)),
        ap (λ x. sample t u +ℚ x) (push-*ℚ m.up (slope t u m.column) (rise /ℚ speed) ∙ whole rise),
        λ c inside other. along-column_other t ok m.column c (push m.up (rise /ℚ speed)) h.inside
            inside (λ e. other (ap (column t) e)) ∙ sym (sample-column t ok c inside),
      );
    }
      where
        speed : ℚ
        speed = push m.up (slope t u m.column)

        whole : (rise : ℚ) → push m.up (slope t u m.column) *ℚ
            (rise /ℚ push m.up (slope t u m.column)) ≡ rise
        whole rise =
            let a : ℚ = push m.up (slope t u m.column) in
            ap (λ x. a *ℚ x) (*ℚ_comm rise (inverse_ℚ a)) ∙ sym (*ℚ_assoc a (inverse_ℚ a) rise)
            ∙ ap (λ x. x *ℚ rise) (*ℚ-inverse_ℚ a h.some) ∙ *ℚ_comm one_ℚ rise ∙ *ℚ-one rise

-- ---- what the rule has next

pub record NextPivot (t : Table) (u r c : ℕ) : Type 0 where
  pub move : Move
  pub low : is_positive (sample t u) ≡ false
  pub enters : entering t u ≡ Some move
  pub leaves : leaving t move ≡ Some r
  pub column : move.column ≡ c

pub next_pivot : (t : Table) (u r c : ℕ) → next t u ≡ Pivots r c → NextPivot t u r c
next_pivot t u r c e = go (is_positive (sample t u)) refl
  where
    row_in : Next → ℕ
    row_in (Stops peak) = 0
    row_in (Pivots x y) = x

    column_in : Next → ℕ
    column_in (Stops peak) = 0
    column_in (Pivots x y) = y

    go : (b : Bool) → is_positive (sample t u) ≡ b → NextPivot t u r c
    go true h = let stops = cond-true (is_positive (sample t u)) (Stops (Positive None))
        (next_by_move t (entering t u)) h in cc
    go false h = by_move (entering t u) refl (sym (cond-false (is_positive (sample t u))
        (Stops (Positive None)) (next_by_move t (entering t u)) h) ∙ e)
      where
        by_move : (o : Option Move) → entering t u ≡ o → next_by_move t o ≡ Pivots r c
            → NextPivot t u r c
        by_move None d k = cc
        by_move (Some m) d k = by_row (leaving t m) refl k
          where
            by_row : (o : Option ℕ) → leaving t m ≡ o → next_by_row t m o ≡ Pivots r c
                → NextPivot t u r c
            by_row None l k' = cc
            by_row (Some x) l k' = record {
              move = m;
              low = h;
              enters = d;
              leaves = l
                  ∙ ap Some (ap row_in k');
              column = ap column_in k';
            }

-- the places of the pivot, and what holds after it
pub record GoodPivot (t : Table) (r c : ℕ) : Type 0 where
  pub row : r < length t.owners
  pub column : c < length t.columns
  pub some : (entry t r c).num ≢ pos 0
  pub within : IsWithin t (sample t) → IsWithin (pivoted t r c) (sample (pivoted t r c))

pub good_pivot : (t : Table) (ok : IsTable t) (u r c : ℕ) → next t u ≡ Pivots r c → GoodPivot t r c
good_pivot t ok u r c e = by_parts (next_pivot t u r c e)
  where
    by_parts : NextPivot t u r c → GoodPivot t r c
    by_parts h = subst (λ (k : ℕ). GoodPivot t r k) h.column
        (of_move h.move (entering_some t u h.move h.enters)
        (least_some t h.move (size t) r h.leaves))
      where
        of_move : (m : Move) → Enters t u m → Leaves t m (size t) r → GoodPivot t r m.column
        of_move m enters leaves = of_row (bounding_some t m leaves.owner r leaves.bounds)
          where
            of_row : Bounds t m leaves.owner r → GoodPivot t r m.column
            of_row b =
                let row : r < length t.owners = subst (λ (k : ℕ). k < length t.owners) (sym b.row)
                b.owns in record {
                  row = row;
                  column = enters.inside;
                  some = (falls_signs m.up (entry t r m.column) (falls_parts t m r b.falls).1).some;
                  within = λ within. IsWithin-after t ok m r row enters.inside within
                      enters.rising b.falls
                      (λ i inside down. leaves.least (owner t i) i (owner_below t ok i inside)
                      (falls_bounds t ok m i inside down));
                }

pub peak_holds : (t : Table) (ok : IsTable t) (u : ℕ) (peak : Peak) → u < size t
    → IsWithin t (sample t) → next t u ≡ Stops peak → PeakHolds t u peak
peak_holds t ok u peak below within e = go (is_positive (sample t u)) refl
  where
    peak_in : Next → Peak
    peak_in (Stops p) = p
    peak_in (Pivots x y) = NotPositive

    go : (b : Bool) → is_positive (sample t u) ≡ b → PeakHolds t u peak
    go true h =
        subst (PeakHolds t u) (ap peak_in (sym (cond-true (is_positive (sample t u))
        (Stops (Positive None)) (next_by_move t (entering t u)) h) ∙ e))
        (positive (sample t u) h)
    go false h = by_move (entering t u) refl (sym (cond-false (is_positive (sample t u))
        (Stops (Positive None)) (next_by_move t (entering t u)) h) ∙ e)
      where
        by_move : (o : Option Move) → entering t u ≡ o → next_by_move t o ≡ Stops peak
            → PeakHolds t u peak
        by_move None d k = subst (PeakHolds t u) (ap peak_in k) (nothing_enters t ok u below h d)
        by_move (Some m) d k = by_row (leaving t m) refl k
          where
            by_row : (o : Option ℕ) → leaving t m ≡ o → next_by_row t m o ≡ Stops peak
                → PeakHolds t u peak
            by_row None l k' = subst (PeakHolds t u) (ap peak_in k')
                (nothing_leaves t ok u m within d l)
            by_row (Some x) l k' = cc
