-- What is read off what clauses come to.
use Rattle.std.proofs.Common.{◌≡◌, Bool, true, false, not, if◌then◌else◌, List, [], ◌∷◌}
use Rattle.std.proofs.Common.{Some, None, refl, ap, sym, subst}
use Rattle.std.specs.List.{Contains, filter, filter_map, list_any}
use Rattle.esc_term.proofs.Members.{Contains-here, Contains-later, Contains-none}
use Rattle.esc_cover.proofs.TestLemmas.{any_at, any_found, false_from, kept, not_both, not_true}
use Rattle.esc_cover.proofs.TestLemmas.{of_kept}
use Rattle.esc_sharing.proofs.Lists.{Contains-map, Contains-of_map}
use Rattle.esc_clause.specs.ClauseContext.{Clause, items_left}
use Rattle.esc_clause.specs.PassesInside.{waiting_of}
use Rattle.esc_clause.specs.Refinement.{is_empty, is_no, is_satisfied, is_yes, left_of}
use Rattle.esc_clause.specs.Refinement.{refined_among, single, split_among, unit_among}
use Rattle.esc_clause.specs.declared.occurrence.Occurrence.{Occurrence}
use Rattle.esc_clause.specs.declared.truth.Refined.TheVariants.{Empty, Quiet, Unit}
use Rattle.esc_clause.specs.declared.truth.Truth.{Truth}
use Rattle.esc_clause.specs.declared.truth.Truth.TheVariants.{Yes, No, Open}

-- ---- lists of what is left

empty_if : (b : Bool) (us : List Occurrence) → (if b then Empty else unit_among us) ≡ Empty
    → b ≡ true
empty_if true us e = refl
empty_if false [] e = cc
empty_if false (u ∷ us) e = cc

none_empty_if : (b : Bool) (us : List Occurrence) → (if b then Empty else unit_among us) ≡ Quiet
    → b ≡ false
none_empty_if true us e = cc
none_empty_if false us e = refl

unit_if : (b : Bool) (us : List Occurrence) (at : Occurrence)
    → (if b then Empty else unit_among us) ≡ Unit at → unit_among us ≡ Unit at
unit_if true us at e = cc
unit_if false us at e = e

is_nil : (items : List Occurrence) → is_empty items ≡ true → items ≡ []
is_nil [] e = refl
is_nil (i ∷ items) e = cc

single_among : (ws : List (List Occurrence)) (at : Occurrence)
    → unit_among (filter_map single ws) ≡ Unit at → Contains ws (at ∷ [])
single_among [] at e = cc
single_among ([] ∷ ws) at e = Contains-later [] ws (at ∷ []) (single_among ws at e)
single_among ((i ∷ []) ∷ ws) at e =
    let same : i ≡ at = cc in
    subst (λ j. Contains ((i ∷ []) ∷ ws) (j ∷ [])) same (Contains-here (i ∷ []) ws)
single_among ((i ∷ j ∷ items) ∷ ws) at e =
    Contains-later (i ∷ j ∷ items) ws (at ∷ []) (single_among ws at e)

-- ---- a clause that is not satisfied

-- a clause that is not satisfied, with what is left of it
pub record Waits (truth : Occurrence → Truth) (cs : List Clause) (items : List Occurrence)
    : Type 0 where
  pub clause : Clause
  pub among : Contains cs clause
  pub unsatisfied : is_satisfied truth (items_left clause) ≡ false
  pub left : left_of truth (items_left clause) ≡ items

module _ (truth : Occurrence → Truth) (cs : List Clause) where
  pub waits_from : (items : List Occurrence) → Contains (waiting_of truth cs) items
      → Waits truth cs items
  waits_from items h =
      let waits = λ (c : Clause). not (is_satisfied truth (items_left c)) in
      let found =
      Contains-of_map (λ (c : Clause). left_of truth (items_left c)) (filter waits cs) items h in
      let there = of_kept waits cs found.0 found.1 in
      record {
        clause = found.0;
        among = there.0;
        unsatisfied = not_true (is_satisfied truth (items_left found.0)) there.1;
        left = found.2;
      }

  pub waits_empty : refined_among (waiting_of truth cs) ≡ Empty → Waits truth cs []
  waits_empty e =
      let found =
      any_found is_empty (waiting_of truth cs)
      (empty_if (list_any is_empty (waiting_of truth cs))
      (filter_map single (waiting_of truth cs)) e) in
      waits_from [] (subst (Contains (waiting_of truth cs)) (is_nil found.0 found.2) found.1)

  pub waits_unit : (at : Occurrence) → refined_among (waiting_of truth cs) ≡ Unit at
      → Waits truth cs (at ∷ [])
  waits_unit at e =
      waits_from (at ∷ []) (single_among (waiting_of truth cs) at
      (unit_if (list_any is_empty (waiting_of truth cs))
      (filter_map single (waiting_of truth cs)) at e))

  -- where to split, a clause waits for it
  pub waits_split : (at : Occurrence) → split_among (waiting_of truth cs) ≡ Some at
      → (rest : List Occurrence) × Waits truth cs (at ∷ rest)
  waits_split at e = go (waiting_of truth cs) refl e
    where
      go : (ws : List (List Occurrence)) → waiting_of truth cs ≡ ws → split_among ws ≡ Some at
          → (rest : List Occurrence) × Waits truth cs (at ∷ rest)
      go [] is e = cc
      go ([] ∷ ws) is e = cc
      go ((i ∷ items) ∷ ws) is e =
          let same : i ≡ at = cc in (
            items,
            waits_from (at ∷ items) (subst (λ us. Contains us (at ∷ items)) (sym is)
                (subst (λ j. Contains ((i ∷ items) ∷ ws) (j ∷ items)) same
                (Contains-here (i ∷ items) ws))),
          )

  -- where no clause has nothing left and there is nowhere to split, no clause waits
  pub none_waits : refined_among (waiting_of truth cs) ≡ Quiet
      → split_among (waiting_of truth cs) ≡ None → waiting_of truth cs ≡ []
  none_waits quiet e =
      go (waiting_of truth cs) (none_empty_if (list_any is_empty (waiting_of truth cs))
      (filter_map single (waiting_of truth cs)) quiet) e
    where
      go : (ws : List (List Occurrence)) → list_any is_empty ws ≡ false → split_among ws ≡ None
          → ws ≡ []
      go [] none e = refl
      go ([] ∷ ws) none e = cc
      go ((i ∷ items) ∷ ws) none e = cc

  -- then each clause is satisfied
  pub all_satisfied : waiting_of truth cs ≡ [] → (c : Clause) → Contains cs c
      → is_satisfied truth (items_left c) ≡ true
  all_satisfied none c h = go (is_satisfied truth (items_left c)) refl
    where
      go : (b : Bool) → is_satisfied truth (items_left c) ≡ b
          → is_satisfied truth (items_left c) ≡ true
      go true e = e
      go false e =
          let waits = λ (d : Clause). not (is_satisfied truth (items_left d)) in
          let there =
          Contains-map (λ (d : Clause). left_of truth (items_left d)) (filter waits cs) c
          (kept waits cs c h (ap not e)) in
          absurd (Contains-none (left_of truth (items_left c)) (subst (λ ws. Contains ws
          (left_of truth (items_left c))) none there))

-- ---- its items

neither_is_open : (t : Truth) → is_yes t ≡ false → is_no t ≡ false → t ≡ Open
neither_is_open Yes e f = cc
neither_is_open No e f = cc
neither_is_open Open e f = refl

-- what is left of a clause that is not satisfied is open
pub left_open : (truth : Occurrence → Truth) (items : List Occurrence) (at : Occurrence)
    → is_satisfied truth items ≡ false → Contains (left_of truth items) at
    → Contains items at × (truth at ≡ Open)
left_open truth items at waits h =
    let there = of_kept (λ i. not (is_no (truth i))) items at h in (
      there.0,
      neither_is_open (truth at)
          (false_from (is_yes (truth at)) (λ held. not_both (is_satisfied truth items)
          (any_at (λ i. is_yes (truth i)) items at there.0 held) waits))
          (not_true (is_no (truth at)) there.1),
    )

is_held : (t : Truth) → is_yes t ≡ true → t ≡ Yes
is_held Yes e = refl
is_held No e = cc
is_held Open e = cc

-- an item of a clause that is satisfied holds
pub one_held : (truth : Occurrence → Truth) (items : List Occurrence)
    → is_satisfied truth items ≡ true → (at : Occurrence) × Contains items at × (truth at ≡ Yes)
one_held truth items e =
    let found = any_found (λ i. is_yes (truth i)) items e in
    (found.0, found.1, is_held (truth found.0) found.2)
