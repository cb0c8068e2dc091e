-- Unknowns in a list, and a table's rows as such lists.
use Rattle.std.proofs.Common.{◌≡◌, ◌⊎◌, inl, inr, ℕ, zero, suc, ◌+◌, ◌<◌, ◌≤◌, Bool, true, false, not, ◌&&◌, ◌==◌, cond, List, [], ◌∷◌, ◌++◌, map, length, get_or, Result, Ok, Err, refl, sym, ap, ap₂, ◌∙◌, subst, arith}
use Rattle.std.specs.List.{All, count_by, position_or_len, filter}
use Rattle.std.specs.Result.{IfOk}
use Rattle.std.specs.declared.alloc.AllocError.{AllocError}
use Rattle.std.proofs.lemmas.Bool.{cases_Bool, cond-true, cond-false, eq-eqb, lt-ltb, le-ltb, and_left, and_right, and_from}
use Rattle.std.proofs.lemmas.List.{ext_get_or, length-map, get_or-map, map-append}
use Rattle.std.proofs.lemmas.List.Elements.{filter-append, All-map, All-filter, All-append, All-from_get_or}
use Rattle.std.proofs.lemmas.List.Sums.{sum_by-append}
use Rattle.esc_tableau.specs.Listed.{is_listed, owner_with, restricted_in, tabled}
use Rattle.esc_tableau.specs.Table.{Table, IsTable, size, nobody, holds, is_marked, place_of, unknowns}
use Rattle.esc_tableau.specs.declared.listed.Rows.{Rows}
use Rattle.esc_tableau.specs.declared.owner.Owner.{Owner}
use Rattle.esc_tableau.proofs.Counting.{mark, mark_few, count_by-cons, count_at, has_place, no_place}
use Rattle.esc_tableau.proofs.Places.{at_most_one, owner_below, column_below}

pub place_in_unknowns : (os : List Owner) (u : ℕ) → position_or_len (λ w. w == u) (unknowns os)
    ≡ place_of os u
place_in_unknowns [] u = refl
place_in_unknowns (o ∷ os) u = ap (λ (n : ℕ). cond (not (o.unknown == u)) (1 + n) 0)
    (place_in_unknowns os u)

pub map-unknowns : (f : ℕ → Owner) (os : List Owner) → map f (unknowns os)
    ≡ map (λ o. f o.unknown) os
map-unknowns f [] = refl
map-unknowns f (o ∷ os) = ap (λ xs. f o.unknown ∷ xs) (map-unknowns f os)

pub restricted_in-append : (xs ys : List Owner) → restricted_in (xs ++ ys) ≡ restricted_in xs
    ++ restricted_in ys
restricted_in-append xs ys = ap unknowns (filter-append (λ o. o.restricted) xs ys)
    ∙ map-append (λ o. o.unknown) (filter (λ o. o.restricted) xs) (filter (λ o. o.restricted) ys)

and_true : (b : Bool) → (b && true) ≡ b
and_true true = refl
and_true false = refl

-- as many restricted unknowns are listed as owners are marked
count_listed : (os : List Owner) (u : ℕ) → count_by (λ w. w == u) (restricted_in os)
    ≡ count_by (is_marked u) os
count_listed [] u = refl
count_listed (o ∷ os) u = go o.restricted refl (count_listed os u)
  where
    go : (b : Bool) → o.restricted ≡ b → count_by (λ w. w == u) (restricted_in os)
        ≡ count_by (is_marked u) os → count_by (λ w. w == u) (restricted_in (o ∷ os))
        ≡ count_by (is_marked u) (o ∷ os)
    go true e ind =
        ap (λ (xs : List Owner). count_by (λ w. w == u) (unknowns xs))
        (cond-true o.restricted (o ∷ filter (λ x. x.restricted) os)
        (filter (λ x. x.restricted) os) e)
        ∙ count_by-cons (λ w. w == u) o.unknown (restricted_in os)
        ∙ ap₂ (λ b n. mark b + n) (sym (ap (λ r. holds u o && r) e ∙ and_true (holds u o))) ind
        ∙ sym (count_by-cons (is_marked u) o os)
    go false e ind =
        let none = ap mark (and_right (holds u o) o.restricted e) in
        let rest : count_by (is_marked u) os ≡ count_by (is_marked u) (o ∷ os) = omega
        (arith, count_by-cons (is_marked u) o os, none) in
        ap (λ (xs : List Owner). count_by (λ w. w == u) (unknowns xs))
        (cond-false o.restricted (o ∷ filter (λ x. x.restricted) os)
        (filter (λ x. x.restricted) os) e)
        ∙ ind ∙ rest

-- no more owners are marked than hold the unknown
marked_fewer : (os : List Owner) (u : ℕ) → count_by (is_marked u) os ≤ count_by (holds u) os
marked_fewer [] u = omega arith
marked_fewer (o ∷ os) u = go (holds u o) refl (marked_fewer os u)
  where
    go : (b : Bool) → holds u o ≡ b → count_by (is_marked u) os ≤ count_by (holds u) os
        → count_by (is_marked u) (o ∷ os) ≤ count_by (holds u) (o ∷ os)
    go true e ind = omega (
      arith,
      count_by-cons (is_marked u) o os,
      count_by-cons (holds u) o os,
      mark_few (is_marked u o),
      ap mark e,
    )
    go false e ind = omega (
      arith,
      count_by-cons (is_marked u) o os,
      count_by-cons (holds u) o os,
      ap mark (and_left (holds u o) o.restricted e),
    )

marked_fewer_at : (os : List Owner) (u i : ℕ) → i < length os → holds u (get_or os i nobody) ≡ true
    → (get_or os i nobody).restricted ≡ false → count_by (is_marked u) os < count_by (holds u) os
marked_fewer_at [] u i inside e f = absurd (omega arith)
marked_fewer_at (o ∷ os) u zero inside e f =
    omega (
      arith,
      count_by-cons (is_marked u) o os,
      count_by-cons (holds u) o os,
      marked_fewer os u,
      ap mark e,
      ap mark (and_right (holds u o) o.restricted f),
    )
marked_fewer_at (o ∷ os) u (suc i) inside e f = go (holds u o) refl
    (marked_fewer_at os u i (omega arith) e f)
  where
    go : (b : Bool) → holds u o ≡ b → count_by (is_marked u) os < count_by (holds u) os
        → count_by (is_marked u) (o ∷ os) < count_by (holds u) (o ∷ os)
    go true d ind = omega (
      arith,
      count_by-cons (is_marked u) o os,
      count_by-cons (holds u) o os,
      mark_few (is_marked u o),
      ap mark d,
    )
    go false d ind = omega (
      arith,
      count_by-cons (is_marked u) o os,
      count_by-cons (holds u) o os,
      ap mark (and_left (holds u o) o.restricted d),
    )

listed_some : (us : List ℕ) (u : ℕ) → 0 < count_by (λ w. w == u) us → is_listed us u ≡ true
listed_some us u h = lt-ltb _ _ (has_place (λ w. w == u) us 0 h)

listed_none : (us : List ℕ) (u : ℕ) → count_by (λ w. w == u) us ≡ 0 → is_listed us u ≡ false
listed_none us u h = le-ltb _ _ (no_place (λ w. w == u) us 0 h)

module _ (t : Table) (ok : IsTable t) where
  counted : (u : ℕ) → count_by (λ w. w == u) (restricted_in (t.owners ++ t.columns))
      ≡ count_by (is_marked u) t.owners + count_by (is_marked u) t.columns
  counted u = count_listed (t.owners ++ t.columns) u
      ∙ sum_by-append (λ o. cond (is_marked u o) 1 0) t.owners t.columns

  owner_listed : (i : ℕ) → i < length t.owners → is_listed (restricted_in (t.owners ++ t.columns))
      (get_or t.owners i nobody).unknown ≡ (get_or t.owners i nobody).restricted
  owner_listed i inside = go (cases_Bool (get_or t.owners i nobody).restricted)
    where
      here : holds (get_or t.owners i nobody).unknown (get_or t.owners i nobody) ≡ true
      here = eq-eqb (get_or t.owners i nobody).unknown (get_or t.owners i nobody).unknown refl

      go : ((get_or t.owners i nobody).restricted ≡ true)
          ⊎ ((get_or t.owners i nobody).restricted ≡ false)
          → is_listed (restricted_in (t.owners ++ t.columns)) (get_or t.owners i nobody).unknown
          ≡ (get_or t.owners i nobody).restricted
      go (inl e) =
          let w = (get_or t.owners i nobody).unknown in
          let some = count_at (is_marked w) t.owners i nobody inside (and_from _ _ here e) in
          listed_some (restricted_in (t.owners ++ t.columns)) w (omega (arith, counted w, some))
          ∙ sym e
      go (inr e) =
          let w = (get_or t.owners i nobody).unknown in
          let less = marked_fewer_at t.owners w i inside here e in
          listed_none (restricted_in (t.owners ++ t.columns)) w
          (omega (arith, counted w, less, at_most_one t ok w, marked_fewer t.columns w)) ∙ sym e

  column_listed : (i : ℕ) → i < length t.columns → is_listed (restricted_in (t.owners ++ t.columns))
      (get_or t.columns i nobody).unknown ≡ (get_or t.columns i nobody).restricted
  column_listed i inside = go (cases_Bool (get_or t.columns i nobody).restricted)
    where
      here : holds (get_or t.columns i nobody).unknown (get_or t.columns i nobody) ≡ true
      here = eq-eqb (get_or t.columns i nobody).unknown (get_or t.columns i nobody).unknown refl

      go : ((get_or t.columns i nobody).restricted ≡ true)
          ⊎ ((get_or t.columns i nobody).restricted ≡ false)
          → is_listed (restricted_in (t.owners ++ t.columns)) (get_or t.columns i nobody).unknown
          ≡ (get_or t.columns i nobody).restricted
      go (inl e) =
          let w = (get_or t.columns i nobody).unknown in
          let some = count_at (is_marked w) t.columns i nobody inside (and_from _ _ here e) in
          listed_some (restricted_in (t.owners ++ t.columns)) w (omega (arith, counted w, some))
          ∙ sym e
      go (inr e) =
          let w = (get_or t.columns i nobody).unknown in
          let less = marked_fewer_at t.columns w i inside here e in
          listed_none (restricted_in (t.owners ++ t.columns)) w
          (omega (arith, counted w, less, at_most_one t ok w, marked_fewer t.owners w)) ∙ sym e

  back : (os : List Owner) → ((i : ℕ) → i < length os
      → is_listed (restricted_in (t.owners ++ t.columns)) (get_or os i nobody).unknown
      ≡ (get_or os i nobody).restricted) → map (owner_with (restricted_in (t.owners ++ t.columns)))
      (unknowns os) ≡ os
  back os listed =
      let f = λ (o : Owner). owner_with (restricted_in (t.owners ++ t.columns)) o.unknown in
      map-unknowns (owner_with (restricted_in (t.owners ++ t.columns))) os
      ∙ ext_get_or nobody (map f os) os (length-map os f)
      (λ i inside.
      let within : i < length os = omega (arith, inside, length-map os f) in
      get_or-map f os i nobody nobody within ∙ ap (λ (b : Bool). record
      { unknown = (get_or os i nobody).unknown; restricted = b }) (listed i within))

  -- rows that are copied give the owners and the columns back
  pub owners_back : map (owner_with (restricted_in (t.owners ++ t.columns))) (unknowns t.owners)
      ≡ t.owners
  owners_back = back t.owners owner_listed

  pub columns_back : map (owner_with (restricted_in (t.owners ++ t.columns))) (unknowns t.columns)
      ≡ t.columns
  columns_back = back t.columns column_listed

  -- the restricted unknowns are among the numbers
  pub restricted_below : All (λ u. u < size t) (restricted_in (t.owners ++ t.columns))
  restricted_below =
      All-map (λ (u : ℕ). u < size t) (λ (o : Owner). o.unknown)
      (filter (λ o. o.restricted) (t.owners ++ t.columns))
      (All-filter (λ (o : Owner). o.restricted) (λ (o : Owner). o.unknown < size t) (t.owners
      ++ t.columns)
      (All-append (λ (o : Owner). o.unknown < size t) t.owners t.columns
      (All-from_get_or (λ (o : Owner). o.unknown < size t) t.owners nobody (owner_below t ok))
      (All-from_get_or (λ (o : Owner). o.unknown < size t) t.columns nobody (column_below t ok))))

pub listed_among : (t : Table) → IsTable t → (r : Result Rows AllocError)
    → IfOk r (λ rows. rows.restricted ≡ restricted_in (t.owners ++ t.columns))
    → IfOk r (λ rows. tabled rows ≡ t) → IfOk r (λ rows. All (λ u. u < size (tabled rows))
    rows.restricted)
listed_among t ok (Ok rows) restricted is =
    subst (λ (us : List ℕ). All (λ u. u < size (tabled rows)) us) (sym restricted)
    (subst (λ (s : Table). All (λ u. u < size s) (restricted_in (t.owners ++ t.columns)))
    (sym is) (restricted_below t ok))
listed_among t ok (Err e) restricted is = tt
