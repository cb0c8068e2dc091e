-- What holds between any two calls holds where a record was taken back.
use Rattle.std.proofs.Common.{◌≡◌, ◌⊎◌, inl, inr, ℕ, ◌-◌, ◌<◌, ◌≤◌, Bool, false, if◌then◌else◌, List, [], ◌∷◌, length, take, map, get_or, sym, ap, subst, ◌∙◌, arith}
use Rattle.std.specs.Prelude.{◌↔◌}
use Rattle.std.specs.List.{Contains}
use Rattle.std.proofs.lemmas.Bool.{cases_lt, lt-ltb}
use Rattle.std.proofs.lemmas.List.{get_or-map, get_or-take, length-map, get_or_default, length-take-le, take-map}
use Rattle.std.proofs.lemmas.List.Elements.{All-contains, All-take}
use Rattle.esc_term.specs.declared.term.Term.{Term}
use Rattle.esc_tableau.specs.Changes.{Frees, with_mark}
use Rattle.esc_tableau.specs.Table.{IsRestricted, IsTable, size}
use Rattle.esc_tableau.proofs.ChangeLaws.{IsTable-with_mark}
use Rattle.esc_tableau.proofs.WithinLaws.{Frees-with_mark}
use Rattle.esc_trail.specs.Undo.{CanRewind, rewind}
use Rattle.esc_simplex.specs.Senses.{sense_of, senses_of, term}
use Rattle.esc_simplex.specs.SimplexUndo.{CanGoBack, freed, newest, simplex_back, simplex_undo}
use Rattle.esc_simplex.specs.View.{AreOnce, IsInUse, IsSimplex}
use Rattle.esc_simplex.specs.declared.record.SimplexRec.{SimplexRec}
use Rattle.esc_simplex.specs.declared.record.SimplexRec.TheVariants.{Listed, Bound, Restricted}
use Rattle.esc_simplex.specs.declared.simplex.Simplex.{Simplex}

fewer : (us : List ℕ) → length (take (length us - 1) us) ≡ length us - 1
fewer us = length-take-le (length us - 1) us (omega arith)

in_range : {X : Type 0} (xs : List X) (k : ℕ) (d e : X) → k < length xs → get_or xs k d
    ≡ get_or xs k e
in_range xs k d e h = get_or_default xs k d e h

AreOnce-fewer : (us : List ℕ) → AreOnce us → AreOnce (take (length us - 1) us)
AreOnce-fewer us once i j a b e =
    let i' : i < length us - 1 = omega (arith, a, fewer us) in
    let j' : j < length us - 1 = omega (arith, b, fewer us) in
    once i j (omega (arith, i')) (omega (arith, j')) (sym (get_or-take (length us - 1) us i 0 i')
    ∙ e ∙ get_or-take (length us - 1) us j 0 j')

-- an entry that is not the newest is among the older ones
older : (us : List ℕ) (u : ℕ) → Contains us u → (u ≡ newest us → ⊥)
    → Contains (take (length us - 1) us) u
older us u h other = go (cases_lt h.0 (length us - 1))
  where
    go : (h.0 < length us - 1) ⊎ (length us - 1 ≤ h.0) → Contains (take (length us - 1) us) u
    go (inl l) = (h.0, omega (arith, l, fewer us), get_or-take (length us - 1) us h.0 u l ∙ h.2)
    go (inr g) =
        let last : h.0 ≡ length us - 1 = omega (arith, g, h.1) in
        absurd (other (sym h.2 ∙ in_range us h.0 u 0 h.1 ∙ ap (λ (k : ℕ). get_or us k 0) last))

-- and one of the older ones was there
was : (us : List ℕ) (u : ℕ) → Contains (take (length us - 1) us) u → Contains us u
was us u h =
    let l : h.0 < length us - 1 = omega (arith, h.1, fewer us) in
    (h.0, omega (arith, l), sym (get_or-take (length us - 1) us h.0 u l) ∙ h.2)

-- and is not the newest, where each stands once
apart : (us : List ℕ) (u : ℕ) → AreOnce us → Contains (take (length us - 1) us) u → u
    ≡ newest us → ⊥
apart us u once h e =
    let l : h.0 < length us - 1 = omega (arith, h.1, fewer us) in
    let same : h.0 ≡ length us - 1 = once h.0 (length us - 1) (omega (arith, l)) (omega (arith, l))
    (sym (in_range us h.0 u 0 (omega (arith, l))) ∙ sym (get_or-take (length us - 1) us h.0 u l)
    ∙ h.2 ∙ e) in
    absurd (omega (arith, l, same))

Contains-at : {X : Type 0} (xs : List X) (k : ℕ) (d : X) → k < length xs
    → Contains xs (get_or xs k d)
Contains-at xs k d h = (k, h, in_range xs k (get_or xs k d) d h)

module _ (v : Simplex) (h : IsSimplex v) (some : 0 < length v.restricted) where
  abbrev n : ℕ
  n = newest v.restricted

  used : Contains v.unknowns n
  used = All-contains (Contains v.unknowns) v.restricted n h.restricted
      (Contains-at v.restricted (length v.restricted - 1) 0 (omega (arith, some)))

  below : n < size v.tableau
  unfolding senses_of
  below =
      let made : n < length v.made = All-contains (λ u. u < length v.made) v.unknowns n
      h.listed used in
      omega (arith, made, h.rows.size, length-map v.made (sense_of v.made))

  is_marked : with_mark v.tableau n false ≡ freed v.tableau n
  is_marked = ap (λ (b : Bool). if b then with_mark v.tableau n false else v.tableau)
      (sym (lt-ltb n (size v.tableau) below))

  frees : Frees v.tableau (freed v.tableau n) n
  frees = subst (λ t. Frees v.tableau t n) is_marked (Frees-with_mark v.tableau h.table n)

  marked_then : (u : ℕ) → IsRestricted (freed v.tableau n) u
      ↔ Contains (take (length v.restricted - 1) v.restricted) u
  marked_then u = (
    (λ r. let found = (frees.restrictions u).0 r in older v.restricted u ((h.marked u).0 found.0)
        found.1),
    (λ c. (frees.restrictions u).1 (
      (h.marked u).1 (was v.restricted u c),
      apart v.restricted u
          h.restricted_once c,
    )),
  )

  freed_sound : IsSimplex (simplex_back v Restricted)
  freed_sound = record {
    table = subst IsTable is_marked (IsTable-with_mark v.tableau n false h.table);
    rows = record {
      size = frees.size ∙ h.rows.size;
      sound = λ p s. h.rows.sound p ((frees.solutions p).1 s);
      complete = λ p x s. (frees.solutions p).0 (h.rows.complete p x s);
    };
    opaque_once = h.opaque_once;
    built = h.built;
    listed = h.listed;
    listed_once = h.listed_once;
    bound = λ k d b. (
      (h.bound k d b).0,
      record {
        listed = (h.bound k d b).1.listed;
        stands
            = (h.bound k d b).1.stands;
      },
    );
    bound_once = h.bound_once;
    restricted = All-take (Contains v.unknowns) (length v.restricted - 1) v.restricted h.restricted;
    restricted_once = AreOnce-fewer v.restricted h.restricted_once;
    marked = marked_then;
    within = frees.within h.within;
  }

pub back_is_sound : (v : Simplex) (rec : SimplexRec) → CanGoBack v rec → IsSimplex v
    → IsSimplex (simplex_back v rec)
back_is_sound v Listed can h = record {
  table = h.table;
  rows = h.rows;
  opaque_once = h.opaque_once;
  built = h.built;
  listed = All-take (λ u. u < length v.made) (length v.unknowns - 1) v.unknowns h.listed;
  listed_once = AreOnce-fewer v.unknowns h.listed_once;
  bound = λ k d b.
      let pair = get_or v.bound k d in
      let held = (h.bound k d b).1 in
      let there : Contains (map (λ pair. pair.1) v.bound) pair.1
      = (
        k,
        omega (arith, b, length-map v.bound (λ (pair : ℕ × ℕ). pair.1)),
        get_or-map
            (λ pair. pair.1) v.bound k d pair.1 b,
      ) in (
        (h.bound k d b).0,
        record {
          listed = older v.unknowns pair.1 held.listed
              (λ e. can.2 (subst (Contains (map (λ pair. pair.1) v.bound)) e there));
          stands
              = held.stands;
        },
      );
  bound_once = h.bound_once;
  restricted = λ k d b. older v.unknowns (get_or v.restricted k d) (h.restricted k d b)
      (λ e. can.1 (subst (Contains v.restricted) e (Contains-at v.restricted k d b)));
  restricted_once = h.restricted_once;
  marked = h.marked;
  within = h.within;
}
back_is_sound v Bound can h = record {
  table = h.table;
  rows = h.rows;
  opaque_once = h.opaque_once;
  built = h.built;
  listed = h.listed;
  listed_once = h.listed_once;
  bound = All-take (λ (pair : ℕ × ℕ). (t : Term) × IsInUse (simplex_back v Bound) pair.1 (term t))
      (length v.bound - 1) v.bound (λ k d b. (
        (h.bound k d b).0,
        record
            { listed = (h.bound k d b).1.listed; stands = (h.bound k d b).1.stands },
      ));
  bound_once = subst AreOnce (take-map (λ pair. pair.0) (length v.bound - 1) v.bound)
      (subst (λ (m : ℕ). AreOnce (take (m - 1) (map (λ pair. pair.0) v.bound)))
      (length-map v.bound (λ (pair : ℕ × ℕ). pair.0))
      (AreOnce-fewer (map (λ pair. pair.0) v.bound) h.bound_once));
  restricted = h.restricted;
  restricted_once = h.restricted_once;
  marked = h.marked;
  within = h.within;
}
back_is_sound v Restricted can h = freed_sound v h can

pub rewind_is_sound : (v : Simplex) (recs : List SimplexRec) → CanRewind simplex_undo v recs
    → IsSimplex v → IsSimplex (rewind simplex_undo v recs)
rewind_is_sound v [] can h = h
rewind_is_sound v (rec ∷ recs) can h =
    back_is_sound (rewind simplex_undo v recs) rec can.1 (rewind_is_sound v recs can.0 h)
