-- Which nodes are parted, and what setting nodes against each other leaves.
use Rattle.std.proofs.Common.{◌≡◌, ◌≢◌, ◌⊎◌, inl, inr, ℕ, ◌+◌, ◌<◌, ◌≤◌, false, true, List}
use Rattle.std.proofs.Common.{◌++◌, length, map, take, drop, set, replicate, length-set, get_or, Option, Some, None}
use Rattle.std.proofs.Common.{Result, Ok, Err, IfErr, refl, sym, ap, ap₂, ◌∙◌, subst, subst₂, arith}
use Rattle.std.proofs.Common.{pos, ◌≤ℤ◌}
use Rattle.std.specs.Prelude.{Bool}
use Rattle.std.specs.List.{All, Contains}
use Rattle.std.proofs.lemmas.Bool.{cases_eq, cases_lt}
use Rattle.std.proofs.lemmas.List.{get_or-replicate, get_or-set_other, get_or-set_same}
use Rattle.std.proofs.lemmas.List.{append-nil, drop_all, get_or_default, length-replicate, take_all}
use Rattle.std.proofs.lemmas.List.Elements.{All-contains}
use Rattle.esc_cover.specs.Assignment.{Assignment, value}
use Rattle.esc_union.specs.Merges.{SameClass}
use Rattle.esc_egraph.specs.Graph.{Graph, number_of}
use Rattle.esc_frac.specs.Rational.{ℚ}
use Rattle.esc_tableau.specs.Table.{IsSolution}
use Rattle.esc_simplex.specs.Barred.{IsBarred}
use Rattle.esc_simplex.specs.Calls.{PartEnds}
use Rattle.esc_simplex.specs.Senses.{IsPointOf, sense_at, senses_of, sense_value, term_at}
use Rattle.esc_simplex.specs.Keys.{ArePartedAt, MayMove, key}
use Rattle.esc_simplex.specs.SimplexUndo.{AreSame}
use Rattle.esc_simplex.specs.View.{Allows, IsSimplex, numbers_in, restrictions_in}
use Rattle.esc_simplex.specs.View.{sense_in, senses_in}
use Rattle.esc_simplex.specs.declared.simplex.Simplex.{Simplex}
use Rattle.esc_simplex.specs.declared.stop.Parted.{Parted}
use Rattle.esc_simplex.specs.declared.stop.Parted.TheVariants.{Equal, Different}
use Rattle.esc_simplex.specs.declared.stop.Stop.{Stop}
use Rattle.esc_simplex.proofs.KeyLaws.{keys_part}
use Rattle.esc_simplex.proofs.Kept.{rows_alike}
use Rattle.esc_simplex.proofs.Undoing.{keeps_lists_both}
use Rattle.esc_sharing.specs.Admitted.{AgreesOn, ArePartedBy, AreTwoNumbers, NextEnds}
use Rattle.esc_sharing.specs.ArithmeticInside.{AreKeys, AreMissed, AreParted, ArePartedAmong}
use Rattle.esc_sharing.specs.ArithmeticInside.{IsPartedBehind, MixesKeys, OnlyRows, PairEnds}
use Rattle.esc_sharing.specs.ArithmeticInside.{PairsEnd, RestEnds, key_at, pair_at}
use Rattle.esc_sharing.specs.ClassesInside.{AreChosen, StandsAmong}
use Rattle.esc_sharing.specs.Nodes.{node_term}
use Rattle.esc_sharing.specs.Numbers.{AreNumbersOf, IsGapOf, IsNumber, number_terms}
use Rattle.esc_sharing.proofs.BoundNodes.{bound_pair, bound_there, for_bound, is_number}
use Rattle.esc_sharing.proofs.BoundNodes.{term_of_node}
use Rattle.esc_sharing.proofs.Restricting.{numbers_kept, value_at}

-- ---- rows alone changed

pub only_itself : (v : Simplex) → IsSimplex v → OnlyRows v v
only_itself v h = record {
  simplex = h;
  keeps = record { unknowns = refl; bound = refl; made = refl; limit = refl };
  restricted = refl;
}

pub only_both : (u v w : Simplex) → OnlyRows u v → OnlyRows v w → OnlyRows u w
only_both u v w h k = record {
  simplex = k.simplex;
  keeps = keeps_lists_both u v w h.keeps k.keeps;
  restricted = k.restricted ∙ h.restricted;
}

module _ (v w : Simplex) (rows : OnlyRows v w) where
  restrictions_kept : restrictions_in w ≡ restrictions_in v
  restrictions_kept = ap₂ (λ ms us. map (sense_at (senses_of ms)) us) rows.keeps.made
      rows.restricted

  solved_on : (a b : Simplex) → IsSimplex a → IsSimplex b → senses_in b ≡ senses_in a
      → (p : ℕ → ℚ) → IsSolution a.tableau p → IsSolution b.tableau p
  solved_on a b ha hb same p solved =
      let found = ha.rows.sound p solved in
      hb.rows.complete p found.0 (subst (λ ss. IsPointOf ss found.0 p) (sym same) found.1)

  pub only_rows_same : IsSimplex v → AreSame v w
  only_rows_same h = record {
    unknowns = sym rows.keeps.unknowns;
    senses = sym (ap₂ (λ ms us. map (sense_at (senses_of ms)) us) rows.keeps.made
        rows.keeps.unknowns);
    bound = sym rows.keeps.bound;
    numbers = sym (numbers_kept v w rows.keeps);
    restricted = sym rows.restricted;
    restrictions = sym restrictions_kept;
    limit = sym rows.keeps.limit;
    rows = rows_alike v.unknowns v.tableau w.tableau (λ p. (
      solved_on v w h rows.simplex (ap senses_of rows.keeps.made) p,
      solved_on w v rows.simplex h (sym (ap senses_of rows.keeps.made)) p,
    ));
  }

  allowed_still : (x : Assignment) → Allows v x → Allows w x
  allowed_still x = subst (λ ss. All (λ s. pos 0 ≤ℤ sense_value x s) ss) (sym restrictions_kept)

  allowed_back : (x : Assignment) → Allows w x → Allows v x
  allowed_back x = subst (λ ss. All (λ s. pos 0 ≤ℤ sense_value x s) ss) restrictions_kept

  pub keys_still : (g : Graph) (numbers : List (ℕ × ℕ)) (keys : List ℕ)
      → AreKeys g v numbers keys → AreKeys g w numbers keys
  keys_still g numbers keys are = record {
    as_many = are.as_many;
    part = λ i j a b other apart. let found = are.part i j a b other apart in
        (found.0, allowed_still found.0 found.1, found.2);
  }

  pub keys_back : (g : Graph) (numbers : List (ℕ × ℕ)) (keys : List ℕ)
      → AreKeys g w numbers keys → AreKeys g v numbers keys
  keys_back g numbers keys are = record {
    as_many = are.as_many;
    part = λ i j a b other apart. let found = are.part i j a b other apart in
        (found.0, allowed_back found.0 found.1, found.2);
  }

  module _ (g : Graph) (a : ℕ) where
    parted_between : (c d : ℕ) → AreParted g w c d → AreParted g v c d
    parted_between c d parted apart =
        let found = parted apart in (found.0, allowed_back found.0 found.1, found.2)

    parted_back : (b : ℕ) → AreParted g w a b → AreParted g v a b
    parted_back b parted apart =
        let found = parted apart in (found.0, allowed_back found.0 found.1, found.2)

    missed_back : (b : ℕ) → AreMissed g w a b → AreMissed g v a b
    missed_back b missed = record {
      two = subst (λ ns. AreTwoNumbers g ns a b) (numbers_kept v w rows.keeps) missed.two;
      equal = λ x allowed. missed.equal x (allowed_still x allowed);
    }

    pub pair_back : (b : ℕ) (r : Result Bool Stop) → PairEnds g w a b r → PairEnds g v a b r
    pair_back b (Ok true) ends = missed_back b ends
    pair_back b (Ok false) ends = parted_back b ends
    pair_back b (Err s) ends = tt

    pub rest_back : (numbers : List (ℕ × ℕ)) (place : ℕ) (r : Result (Option ℕ) Stop)
        → (pair_at numbers place).0 ≡ a → RestEnds g w numbers place r
        → RestEnds g v numbers place r
    rest_back numbers place (Ok None) is ends = λ j behind inside.
        parted_between (pair_at numbers place).0 (pair_at numbers j).0 (ends j behind inside)
    rest_back numbers place (Ok (Some b)) is ends = subst (λ n. AreMissed g v n b) (sym is)
        (missed_back b (subst (λ n. AreMissed g w n b) is ends))
    rest_back numbers place (Err s) is ends = tt

  pub numbers_still : (g : Graph) → AreNumbersOf g (numbers_in v) → AreNumbersOf g (numbers_in w)
  numbers_still g are = subst (AreNumbersOf g) (sym (numbers_kept v w rows.keeps)) are

  pub bound_still : (p : ℕ × ℕ) → Contains v.bound p → Contains w.bound p
  bound_still p h = subst (λ ps. Contains ps p) (sym rows.keeps.bound) h

  pub barred_back : {V : Type 0} (x : Simplex) (r : Result V Stop)
      → IfErr r (IsBarred x (λ t. ⊥) (IsGapOf (number_terms (numbers_in w))))
      → IfErr r (IsBarred x (λ t. ⊥) (IsGapOf (number_terms (numbers_in v))))
  barred_back x r barred = subst (λ ns. IfErr r (IsBarred x (λ t. ⊥) (IsGapOf (number_terms ns))))
      (numbers_kept v w rows.keeps) barred

-- ---- one pair

module _ (g : Graph) (v : Simplex) (h : IsSimplex v) (are : AreNumbersOf g (numbers_in v)) where
  value_of : (a u : ℕ) → Contains v.bound (a, u) → (x : Assignment)
      → sense_value x (sense_in v u) ≡ value x (node_term g a)
  value_of a u bound x = value_at v u (for_bound v a u bound h) x
      ∙ ap (value x) (sym (term_of_node v a u bound g are))

  module _ (p q : ℕ × ℕ) (first : Contains v.bound p) (second : Contains v.bound q) where
    pub part_shows : (SameClass (number_of g) p.0 q.0 → ⊥) → (r : Result Parted Stop)
        → PartEnds v p.1 q.1 r → (b : Bool)
        → ((r ≡ Ok Equal) × (b ≡ true)) ⊎ ((r ≡ Ok Different) × (b ≡ false))
        → PairEnds g v p.0 q.0 (Ok b)
    part_shows other r ends b (inl is) =
        let equal = subst (PartEnds v p.1 q.1) is.0 ends in
        subst (λ c. PairEnds g v p.0 q.0 (Ok c)) (sym is.1) (record {
          two = record {
            first = is_number v p.0 p.1 first;
            second = is_number v q.0 q.1 second;
            different = other;
          };
          equal = λ x allowed. sym (value_of p.0 p.1 first x) ∙ equal x allowed
              ∙ value_of q.0 q.1 second x;
        })
    part_shows other r ends b (inr is) =
        let parted = subst (PartEnds v p.1 q.1) is.0 ends in
        subst (λ c. PairEnds g v p.0 q.0 (Ok c)) (sym is.1) (λ apart. (
          parted.0,
          parted.1,
          λ same. parted.2 (value_of p.0 p.1 first parted.0 ∙ same
              ∙ sym (value_of q.0 q.1 second parted.0)),
        ))

-- two that were read at their places
pub read_by : (g : Graph) (v : Simplex) (numbers : List (ℕ × ℕ)) (i j : ℕ)
    → i < length numbers → j < length numbers → (p q : ℕ × ℕ) → p ≡ get_or numbers i p
    → q ≡ get_or numbers j q → (r : Result Bool Stop) → PairEnds g v p.0 q.0 r
    → PairEnds g v (pair_at numbers i).0 (pair_at numbers j).0 r
read_by g v numbers i j a b p q first second r =
    subst₂ (λ (m n : ℕ × ℕ). PairEnds g v m.0 n.0 r)
    (first ∙ get_or_default numbers i p (0, 0) a) (second ∙ get_or_default numbers j q (0, 0) b)

-- ---- one node with those behind it

module _ (g : Graph) (v : Simplex) (numbers : List (ℕ × ℕ)) where
  pub behind-starts : (place : ℕ) → IsPartedBehind g v numbers place (place + 1)
  behind-starts place j behind inside = absurd (omega (arith, behind, inside))

  pub behind-step : (place other : ℕ)
      → AreParted g v (pair_at numbers place).0 (pair_at numbers other).0
      → IsPartedBehind g v numbers place other → IsPartedBehind g v numbers place (other + 1)
  behind-step place other parted before j behind inside = go (cases_lt j other)
    where
      go : (j < other) ⊎ (other ≤ j)
          → AreParted g v (pair_at numbers place).0 (pair_at numbers j).0
      go (inl earlier) = before j behind earlier
      go (inr late) =
          let here : other ≡ j = omega (arith, late, inside) in
          subst (λ k. AreParted g v (pair_at numbers place).0 (pair_at numbers k).0) here parted

  -- the first ones are parted from all behind them
  abbrev pub ArePartedTo : ℕ → Type 0
  ArePartedTo place = (i : ℕ) → i < place → IsPartedBehind g v numbers i (length numbers)

  pub parted-starts : ArePartedTo 0
  parted-starts i none = absurd (omega (arith, none))

  pub parted-step : (place : ℕ) → IsPartedBehind g v numbers place (length numbers)
      → ArePartedTo place → ArePartedTo (place + 1)
  parted-step place parted before i less = go (cases_lt i place)
    where
      go : (i < place) ⊎ (place ≤ i) → IsPartedBehind g v numbers i (length numbers)
      go (inl earlier) = before i earlier
      go (inr late) =
          let here : place ≡ i = omega (arith, late, less) in
          subst (λ k. IsPartedBehind g v numbers k (length numbers)) here parted

  turned : (a b : ℕ) → AreParted g v a b → AreParted g v b a
  turned a b h apart =
      let found = h (λ same. apart (sym same)) in (found.0, found.1, λ e. found.2 (sym e))

  ahead : ArePartedTo (length numbers) → (p q : ℕ × ℕ) (there : Contains numbers p)
      (also : Contains numbers q) → there.0 < also.0 → AreParted g v p.0 q.0
  ahead parted p q there also less =
      subst₂ (λ (m n : ℕ × ℕ). AreParted g v m.0 n.0)
      (get_or_default numbers there.0 (0, 0) p there.1 ∙ there.2)
      (get_or_default numbers also.0 (0, 0) q also.1 ∙ also.2)
      (parted there.0 there.1 also.0 less also.1)

  pub parted-done : ArePartedTo (length numbers) → ArePartedAmong g v numbers
  parted-done parted p q there also =
      elim (cases_lt there.0 also.0) [
        | inl less ↦ ahead parted p q there also less
        | inr late ↦ elim (cases_lt also.0 there.0) [
          | inl more ↦ turned q.0 p.0 (ahead parted q p also there more)
          | inr early ↦
              let here : there.0 ≡ also.0 = omega (arith, late, early) in
              let same : p ≡ q = sym there.2 ∙ get_or_default numbers there.0 p q there.1
              ∙ ap (λ n. get_or numbers n q) here ∙ also.2 in
              λ apart. absurd (apart (ap (λ (n : ℕ × ℕ). number_of g n.0) same))
        ]
      ]

-- ---- by keys

module _ (g : Graph) (v : Simplex) (h : IsSimplex v) (are : AreNumbersOf g (numbers_in v))
    (numbers : List (ℕ × ℕ)) (bound : All (Contains v.bound) numbers) where
  bound_at : (i : ℕ) → i < length numbers → Contains v.bound (pair_at numbers i)
  bound_at i inside = bound i (0, 0) inside

  parted_as : (i j : ℕ) → i < length numbers → j < length numbers
      → ArePartedAt v (pair_at numbers i).1 (pair_at numbers j).1
      → AreParted g v (pair_at numbers i).0 (pair_at numbers j).0
  parted_as i j a b found apart = (
    found.0,
    found.1,
    λ same. found.2 (value_of g v h are (pair_at numbers i).0 (pair_at numbers i).1 (bound_at i a)
        found.0 ∙ same ∙ sym (value_of g v h are (pair_at numbers j).0 (pair_at numbers j).1
        (bound_at j b) found.0)),
  )

  pub keys_mixed : (old new : List ℕ) → length new ≡ length numbers
      → AreKeys g v numbers old → MixesKeys v numbers old new → AreKeys g v numbers new
  keys_mixed old new long before mixes = record {
    as_many = long;
    part = λ i j a b other. elim (mixes i j a b other) [
      | inl differed ↦ before.part i j a b differed
      | inr parted ↦ parted_as i j a b parted
    ];
  }

-- a slice that was written back whole
pub written_back : {X : Type 0} (old new : List X) (n : ℕ) → length new ≡ length old
    → n ≡ length old → take n (new ++ drop (length new) old) ≡ new
written_back old new n same is =
    ap (λ rest. take n (new ++ rest)) (drop_all (length new) old (omega (arith, same)))
    ∙ ap (take n) (append-nil new) ∙ take_all n new (omega (arith, is, same))

-- keys that are all one part none
pub keys-starts : (g : Graph) (v : Simplex) (numbers : List (ℕ × ℕ)) (keys : List ℕ)
    → keys ≡ replicate (length numbers) 0 → AreKeys g v numbers keys
keys-starts g v numbers keys is = record {
  as_many = ap length is ∙ length-replicate (length numbers) 0;
  part = λ i j a b other. absurd (other (one i a ∙ sym (one j b)));
}
  where
    one : (i : ℕ) → i < length numbers → key_at keys i ≡ 0
    one i inside = ap (λ ks. get_or ks i 0) is ∙ get_or-replicate (length numbers) i 0 0 inside

module _ (v : Simplex) (numbers : List (ℕ × ℕ)) (columns old : List ℕ) where
  -- the first keys are mixed, and the others are as they were
  pub record AreMixedTo (place : ℕ) (keys : List ℕ) : Type 0 where
    pub as_many : length keys ≡ length numbers
    pub done : (i : ℕ) → i < place → key_at keys i
        ≡ key v.tableau columns (key_at old i) (pair_at numbers i).1
    pub left : (i : ℕ) → place ≤ i → key_at keys i ≡ key_at old i

  pub mixed-starts : length old ≡ length numbers → AreMixedTo 0 old
  mixed-starts long = record {
    as_many = long;
    done = λ i none. absurd (omega (arith, none));
    left = λ i _. refl;
  }

  pub mixed-step : (place : ℕ) (keys : List ℕ) (k : ℕ) → place < length keys
      → k ≡ key v.tableau columns (key_at keys place) (pair_at numbers place).1
      → AreMixedTo place keys → AreMixedTo (place + 1) (set keys place k)
  mixed-step place keys k inside is before = record {
    as_many = length-set keys place k ∙ before.as_many;
    done = λ i less. go i (cases_eq i place) less;
    left = λ i past. get_or-set_other keys place i k 0 (λ e. omega (arith, past, e))
        ∙ before.left i (omega (arith, past));
  }
    where
      go : (i : ℕ) → (i ≡ place) ⊎ (i ≢ place) → i < place + 1 → key_at (set keys place k) i
          ≡ key v.tableau columns (key_at old i) (pair_at numbers i).1
      go i (inr other) less = get_or-set_other keys place i k 0 other
          ∙ before.done i (omega (arith, less, other))
      go i (inl e) less =
          subst (λ n. key_at (set keys place k) n
          ≡ key v.tableau columns (key_at old n) (pair_at numbers n).1) (sym e)
          (get_or-set_same keys place k 0 inside ∙ is
          ∙ ap (λ s. key v.tableau columns s (pair_at numbers place).1)
          (before.left place (omega arith)))

  pub mixed-done : IsSimplex v → All (Contains v.bound) numbers → MayMove v.tableau columns
      → (keys : List ℕ) → AreMixedTo (length keys) keys → MixesKeys v numbers old keys
  mixed-done h bound may keys all i j a b other =
      keys_part v h columns may (pair_at numbers i).1 (pair_at numbers j).1
      (for_bound v (pair_at numbers i).0 (pair_at numbers i).1 (bound i (0, 0) a) h)
      (for_bound v (pair_at numbers j).0 (pair_at numbers j).1 (bound j (0, 0) b) h)
      (key_at old i) (key_at old j)
      (λ e. other (all.done i (omega (arith, a, all.as_many)) ∙ e
      ∙ sym (all.done j (omega (arith, b, all.as_many)))))

-- ---- all arithmetic nodes

module _ (g : Graph) (v : Simplex)
    (agree : (x : Assignment) → Allows v x → AgreesOn g (numbers_in v) x)
    (pairs : List (ℕ × ℕ)) (chosen : AreChosen g v.bound pairs) where
  chosen_for : (a : ℕ) → IsNumber (numbers_in v) a → StandsAmong g pairs a
  chosen_for a number =
      let found = bound_there (term_at v.made) v.bound a number in
      All-contains (λ (pair : ℕ × ℕ). StandsAmong g pairs pair.0) v.bound (a, found.0) chosen.each
      (bound_pair v.bound a found.0 found.1)

  value_as : (a : ℕ) → IsNumber (numbers_in v) a → (stands : StandsAmong g pairs a)
      → (x : Assignment) → Allows v x → value x (node_term g a) ≡ value x (node_term g stands.0.0)
  value_as a number stands x allowed = agree x allowed a stands.0.0 number
      (is_number v stands.0.0 stands.0.1
      (All-contains (Contains v.bound) pairs stands.0 chosen.among stands.1)) stands.2

  all_parted : ArePartedAmong g v pairs → (a b : ℕ) → AreTwoNumbers g (numbers_in v) a b
      → ArePartedBy (Allows v) (node_term g a) (node_term g b)
  all_parted parted a b two =
      let p = chosen_for a two.first in
      let q = chosen_for b two.second in
      let x = parted p.0 q.0 p.1 q.1 (λ same. two.different (p.2 ∙ same ∙ sym q.2)) in (
        x.0,
        x.1,
        λ e. x.2 (sym (value_as a two.first p x.0 x.1) ∙ e ∙ value_as b two.second q x.0 x.1),
      )

  pub next_ends : (r : Result (Option (ℕ × ℕ)) Stop) → PairsEnd g v pairs r
      → NextEnds g (numbers_in v) (Allows v) r
  next_ends (Ok None) ends = all_parted ends
  next_ends (Ok (Some found)) ends = (ends.two, ends.equal)
  next_ends (Err s) ends = tt
