-- An unknown that owns a row and is maximised keeps a row, and where it grows without bound its own
-- row can be pivoted.
use Rattle.std.proofs.Common.{◌≡◌, ◌≢◌, ◌⊎◌, inl, inr, ℕ, ◌<◌, Bool, true, false, Option, Some, None, Result, Ok, Err, OnOk, OnErr, List, length, set, get_or, pos, refl, sym, ap, ◌∙◌, subst, arith, length-set, get_or-set_same, get_or-set_other}
use Rattle.std.proofs.lemmas.Int.{ints}
use Rattle.std.proofs.lemmas.Bool.{cases_eq, cond-true, cond-false}
use Rattle.std.proofs.lemmas.List.{length-map, get_or-map}
use Rattle.esc_frac.specs.Rational.{ℚ, zero_ℚ, ◌+ℚ◌, neg_ℚ, ◌≤ℚ◌}
use Rattle.esc_frac.specs.RationalLaws.{zero_from_num}
use Rattle.esc_frac.proofs.FieldLaws.{zero-+ℚ, +ℚ-neg_ℚ, neg_ℚ-zero}
use Rattle.esc_frac.proofs.OrderLaws.{≤ℚ_refl, ≤ℚ_antisymm}
use Rattle.esc_rows.specs.Rows.{Point}
use Rattle.esc_tableau.specs.Table.{Table, IsTable, IsSolution, IsWithin, OwnsRow, OwnsColumn, nobody, unknowns, size, owner, column, entry, row_entries, row_constant, row_of, column_of, sample, pivoted}
use Rattle.esc_tableau.specs.Rule.{is_positive, slope, absolute, entering, falls, leaving, next, next_by_move, next_by_row}
use Rattle.esc_tableau.specs.declared.answers.Peak.TheVariants.{NotPositive, Positive}
use Rattle.esc_tableau.specs.declared.rule.Move.{Move}
use Rattle.esc_tableau.specs.declared.rule.Next.{Next}
use Rattle.esc_tableau.specs.declared.rule.Next.TheVariants.{Stops, Pivots}
use Rattle.esc_tableau.proofs.MoveLaws.{RestrictedRow, RestrictedColumn, restricted_place, falls_parts, slope-owner}
use Rattle.esc_tableau.proofs.Orders.{negative_nonnegative}
use Rattle.esc_tableau.proofs.PeakLaws.{Enters, entering_some, NextPivot, next_pivot, nothing_leaves, not_positive, low_from_negative}
use Rattle.esc_tableau.proofs.PivotLaws.{IsSolution-pivoted, IsWithin-pivoted}
use Rattle.esc_tableau.proofs.Pivoted.{IsTable-pivoted, columns_are, column-at_column, owner-at_other}
use Rattle.esc_tableau.proofs.Places.{row_of-owner, column_of-column, owner-row_of}
use Rattle.esc_tableau.proofs.RuleLaws.{least_some, bounding_some}
use Rattle.esc_tableau.proofs.SampleLaws.{combination-zero, sample-owner, sample-column}
use Rattle.esc_tableau.proofs.Signs.{push, falls_signs}

-- ---- the row of the unknown that is maximised

slope-row : (t : Table) (ok : IsTable t) (u c : ℕ) → OwnsRow t u → slope t u c
    ≡ entry t (row_of t u) c
slope-row t ok u c row = ap (λ (w : ℕ). slope t w c) (sym (owner-row_of t ok u row))
    ∙ slope-owner t ok (row_of t u) c row

-- it does not fall along the move that makes it rise
rises : (t : Table) (ok : IsTable t) (u : ℕ) (m : Move) → OwnsRow t u → entering t u ≡ Some m
    → falls t m (row_of t u) ≡ true → ⊥
rises t ok u m row enters down =
    let in_ = entering_some t u m enters in
    let signs = falls_signs m.up (entry t (row_of t u) m.column)
    (falls_parts t m (row_of t u) down).1 in
    let pushed : push m.up (slope t u m.column) ≡ neg_ℚ (absolute (entry t (row_of t u) m.column))
    = ap (push m.up) (slope-row t ok u m.column row) ∙ signs.pushed in
    let low : absolute (entry t (row_of t u) m.column) ≤ℚ zero_ℚ = low_from_negative
    (absolute (entry t (row_of t u) m.column)) (subst (λ (x : ℚ). zero_ℚ ≤ℚ x) pushed in_.size)
    in
    signs.whole (ap (λ (x : ℚ). x.num) (≤ℚ_antisymm (absolute (entry t (row_of t u) m.column))
    zero_ℚ low signs.size))

-- so another row leaves
leaver : (t : Table) (ok : IsTable t) (u r c : ℕ) → OwnsRow t u → next t u ≡ Pivots r c
    → (r < length t.owners) × (c < length t.columns) × (row_of t u ≢ r)
leaver t ok u r c row e = of_pivot (next_pivot t u r c e)
  where
    of_pivot : NextPivot t u r c → (r < length t.owners) × (c < length t.columns) × (row_of t u ≢ r)
    of_pivot h =
        let leaves = least_some t h.move (size t) r h.leaves in
        let bounds = bounding_some t h.move leaves.owner r leaves.bounds in (
          subst (λ (k : ℕ). k < length t.owners) (sym bounds.row) bounds.owns,
          subst (λ (k : ℕ). k < length t.columns) h.column
              (entering_some t u h.move h.enters).inside,
          λ same. rises t ok u h.move row h.enters
              (subst (λ (k : ℕ). falls t h.move k ≡ true) (sym same) bounds.falls),
        )

-- a pivot of the rule keeps the unknown's row
pub stays_after : (t : Table) (ok : IsTable t) (u r c : ℕ) → OwnsRow t u → next t u ≡ Pivots r c
    → OwnsRow (pivoted t r c) u
stays_after t ok u r c row e =
    let h = leaver t ok u r c row e in
    let long : row_of t u < length (pivoted t r c).owners = omega
    (arith, row, length-set t.owners r (get_or t.columns c nobody)) in
    let there : owner (pivoted t r c) (row_of t u)
    ≡ u = owner-at_other t ok r c h.0 h.1 (row_of t u) h.2 ∙ owner-row_of t ok u row in
    let here : row_of (pivoted t r c) u ≡ row_of t u = ap (row_of (pivoted t r c)) (sym there)
    ∙ row_of-owner (pivoted t r c) (IsTable-pivoted t ok r c h.0 h.1) (row_of t u) long in
    subst (λ (k : ℕ). k < length (pivoted t r c).owners) (sym here) long

-- ---- numbers that are pushed

pushed_some : (up : Bool) (q : ℚ) → (push up q).num ≢ pos 0 → q.num ≢ pos 0
pushed_some up q some z = some (ap (λ (x : ℚ). x.num) (ap (push up) (zero_from_num q z) ∙ none up))
  where
    none : (b : Bool) → push b zero_ℚ ≡ zero_ℚ
    none true = refl
    none false = neg_ℚ-zero

pub negative_low : (q : ℚ) → q ≤ℚ zero_ℚ → zero_ℚ ≤ℚ neg_ℚ q
negative_low q h = negative_nonnegative q (omega (arith, ints, h))

-- ---- the pivot of its own row, where it grows without bound

-- a solution in which each column's unknown is 0 has the rows' constants
owner-zero : (t : Table) (v : Point) (r : ℕ) → r < length t.owners → IsSolution t v
    → ((c : ℕ) → c < length (unknowns t.columns) → v (get_or (unknowns t.columns) c 0) ≡ zero_ℚ)
    → v (owner t r) ≡ row_constant t r
owner-zero t v r row holds zeros =
    holds r row ∙ ap (λ x. x +ℚ row_constant t r) (combination-zero v (row_entries t r)
    (unknowns t.columns) zeros) ∙ zero-+ℚ (row_constant t r)

-- so where it is within the restrictions, the sample is too
within_zero : (t : Table) (ok : IsTable t) (v : Point) → IsSolution t v → IsWithin t v
    → ((c : ℕ) → c < length (unknowns t.columns) → v (get_or (unknowns t.columns) c 0) ≡ zero_ℚ)
    → IsWithin t (sample t)
within_zero t ok v holds within zeros w h = go (restricted_place t w h)
  where
    go : RestrictedRow t w ⊎ RestrictedColumn t w → zero_ℚ ≤ℚ sample t w
    go (inl at) =
        let same : v (owner t at.row) ≡ sample t (owner t at.row) = owner-zero t v at.row at.inside
        holds zeros ∙ sym (sample-owner t ok at.row at.inside) in
        subst (λ (x : ℚ). zero_ℚ ≤ℚ x) (ap v (sym at.is) ∙ same ∙ ap (sample t) at.is) (within w h)
    go (inr at) = subst (λ (x : ℚ). zero_ℚ ≤ℚ x) (sym (sample-column t ok at.place at.inside)
        ∙ ap (sample t) at.is) (≤ℚ_refl zero_ℚ)

pub record RayPivot (t : Table) (u x : ℕ) : Type 0 where
  pub column : OwnsColumn t x
  pub some : (entry t (row_of t u) (column_of t x)).num ≢ pos 0
  pub within : IsWithin t (sample t) → IsWithin (pivoted t (row_of t u) (column_of t x))
      (sample (pivoted t (row_of t u) (column_of t x)))
  pub zero : sample (pivoted t (row_of t u) (column_of t x)) u ≡ zero_ℚ

-- the move that goes on without bound
record NextRay (t : Table) (u x : ℕ) : Type 0 where
  move : Move
  low : is_positive (sample t u) ≡ false
  enters : entering t u ≡ Some move
  leaves : leaving t move ≡ None
  ray : column t move.column ≡ x

next_ray : (t : Table) (u x : ℕ) → next t u ≡ Stops (Positive (Some x)) → NextRay t u x
next_ray t u x e = go (is_positive (sample t u)) refl
  where
    ray_in : Next → ℕ
    ray_in (Stops NotPositive) = 0
    ray_in (Stops (Positive None)) = 0
    ray_in (Stops (Positive (Some y))) = y
    ray_in (Pivots y z) = 0

    go : (b : Bool) → is_positive (sample t u) ≡ b → NextRay t u x
    go true h = let stops = cond-true (is_positive (sample t u)) (Stops (Positive None))
        (next_by_move t (entering t u)) h in cc
    go false h = by_move (entering t u) refl (sym (cond-false (is_positive (sample t u))
        (Stops (Positive None)) (next_by_move t (entering t u)) h) ∙ e)
      where
        by_move : (o : Option Move) → entering t u ≡ o → next_by_move t o
            ≡ Stops (Positive (Some x)) → NextRay t u x
        by_move None d k = cc
        by_move (Some m) d k = by_row (leaving t m) refl k
          where
            by_row : (o : Option ℕ) → leaving t m ≡ o → next_by_row t m o
                ≡ Stops (Positive (Some x)) → NextRay t u x
            by_row None l k' = record {
              move = m;
              low = h;
              enters = d;
              leaves = l;
              ray = ap
                  ray_in k';
            }
            by_row (Some y) l k' = cc

pub ray_pivot : (t : Table) (ok : IsTable t) (u x : ℕ) → OwnsRow t u → next t u
    ≡ Stops (Positive (Some x)) → RayPivot t u x
ray_pivot t ok u x row e = of_ray (next_ray t u x e)
  where
    of_ray : NextRay t u x → RayPivot t u x
    of_ray h = subst (RayPivot t u) h.ray (record {
      column = subst (λ (k : ℕ). k < length t.columns) (sym here) inside;
      some = subst (λ (k : ℕ). (entry t (row_of t u) k).num ≢ pos 0) (sym here) some;
      within = λ within. subst (λ (k : ℕ). IsWithin (pivoted t (row_of t u) k)
          (sample (pivoted t (row_of t u) k))) (sym here) (after within);
      zero = subst (λ (k : ℕ). sample (pivoted t (row_of t u) k) u ≡ zero_ℚ) (sym here) zero;
    })
      where
        c : ℕ
        c = h.move.column

        in_ : Enters t u h.move
        in_ = entering_some t u h.move h.enters

        inside : c < length t.columns
        inside = in_.inside

        here : column_of t (column t c) ≡ c
        here = column_of-column t ok c inside

        some : (entry t (row_of t u) c).num ≢ pos 0
        some = subst (λ (q : ℚ). q.num ≢ pos 0) (slope-row t ok u c row)
            (pushed_some h.move.up (slope t u c) in_.some)

        zero : sample (pivoted t (row_of t u) c) u ≡ zero_ℚ
        zero =
            let lies : c < length (pivoted t (row_of t u) c).columns = omega
            (arith, inside, length-set t.columns c (get_or t.owners (row_of t u) nobody)) in
            ap (sample (pivoted t (row_of t u) c))
            (sym (column-at_column t ok (row_of t u) c row inside ∙ owner-row_of t ok u row))
            ∙ sample-column (pivoted t (row_of t u) c)
            (IsTable-pivoted t ok (row_of t u) c row inside) c lies

        after : IsWithin t (sample t) → IsWithin (pivoted t (row_of t u) c)
            (sample (pivoted t (row_of t u) c))
        after within =
            let grows = nothing_leaves t ok u h.move within h.enters h.leaves in
            let up = grows.rises (neg_ℚ (sample t u))
            (negative_low (sample t u) (not_positive (sample t u) h.low)) in
            within_zero (pivoted t (row_of t u) c)
            (IsTable-pivoted t ok (row_of t u) c row inside) up.0
            (IsSolution-pivoted t ok (row_of t u) c row inside some up.0 up.1)
            (IsWithin-pivoted t ok (row_of t u) c row inside some up.0 up.2)
            (zeros up.0 (up.3 ∙ +ℚ-neg_ℚ (sample t u)) up.4)
          where
            zeros : (v : Point) → v u ≡ zero_ℚ → ((j : ℕ) → j < length t.columns
                → column t j ≢ column t c → v (column t j) ≡ sample t (column t j)) → (j : ℕ) → j
                < length (unknowns (pivoted t (row_of t u) c).columns)
                → v (get_or (unknowns (pivoted t (row_of t u) c).columns) j 0) ≡ zero_ℚ
            zeros v none others j lies = by_place (cases_eq j c)
              where
                long : length (unknowns (pivoted t (row_of t u) c).columns) ≡ length t.columns
                long = length-map (pivoted t (row_of t u) c).columns (λ o. o.unknown)
                    ∙ length-set t.columns c (get_or t.owners (row_of t u) nobody)

                at : ℕ → ℕ
                at k = get_or (unknowns (pivoted t (row_of t u) c).columns) k 0

                set_at : (k : ℕ) → at k ≡ get_or (set (unknowns t.columns) c (owner t (row_of t u)))
                    k 0
                set_at k = ap (λ (ws : List ℕ). get_or ws k 0)
                    (columns_are t ok (row_of t u) c row inside)

                by_place : (j ≡ c) ⊎ (j ≢ c) → v (at j) ≡ zero_ℚ
                by_place (inl same) =
                    ap (λ (k : ℕ). v (at k)) same
                    ∙ ap v (set_at c ∙ get_or-set_same (unknowns t.columns) c (owner t (row_of t u))
                    0 (omega (arith, inside, length-map t.columns (λ o. o.unknown)))
                    ∙ owner-row_of t ok u row)
                    ∙ none
                by_place (inr other) =
                    let lies' : j < length t.columns = omega (arith, lies, long) in
                    ap v (set_at j ∙ get_or-set_other (unknowns t.columns) c j
                    (owner t (row_of t u)) 0 other
                    ∙ get_or-map (λ o. o.unknown) t.columns j nobody 0 lies')
                    ∙ others j lies' (λ e. other (sym (column_of-column t ok j lies')
                    ∙ ap (column_of t) e ∙ here))
                    ∙ sample-column t ok j lies'

-- after the pivot, or where it did not fit
pub raised : {V E : Type 0} (old new : Table) (u x : ℕ) (r : Result V E) → RayPivot old u x
    → IsWithin old (sample old) → OnOk r (new ≡ pivoted old (row_of old u) (column_of old x))
    → OnErr r (new ≡ old) → IsWithin new (sample new) × OnOk r (sample new u ≡ zero_ℚ)
raised old new u x (Ok v) ray within ok err = (
  subst (λ (t : Table). IsWithin t (sample t)) (sym ok)
      (ray.within within),
  ap (λ (t : Table). sample t u) ok ∙ ray.zero,
)
raised old new u x (Err e) ray within ok err = (
  subst (λ (t : Table). IsWithin t (sample t))
      (sym err) within,
  tt,
)
