-- The places of one bound node for each class.
use Rattle.std.proofs.Common.{◌≡◌, ◌⊎◌, inl, inr, ℕ, ◌+◌, ◌-◌, ◌<◌, ◌≤◌, List, [], ◌∷◌, ◌++◌}
use Rattle.std.proofs.Common.{length, map, get_or, sym, ap, ◌∙◌, arith}
use Rattle.std.specs.List.{All, Contains}
use Rattle.std.specs.List.Sorted.{IsPermutation}
use Rattle.std.proofs.lemmas.Bool.{cases_lt}
use Rattle.std.proofs.lemmas.List.{get_or_default}
use Rattle.std.proofs.lemmas.List.Elements.{All-contains, All-nil, All-push}
use Rattle.std.proofs.lemmas.List.Elements.{Contains-append_left, Contains-push}
use Rattle.std.proofs.lemmas.List.Sorted.{All-permutation, Contains-permutation}
use Rattle.esc_egraph.specs.Graph.{Graph, number_of}
use Rattle.esc_sharing.specs.ArithmeticInside.{pair_at}
use Rattle.esc_sharing.specs.ClassesInside.{AreChosen, AreClassPlaces, StandsAmong, StandsAtOne}
use Rattle.esc_sharing.specs.KnownInside.{class_at, node_at}
use Rattle.esc_sharing.specs.SettlingInside.{AreSeated}
use Rattle.esc_sharing.proofs.Lists.{All-each, Contains-map, Contains-of_map}

module _ (g : Graph) (bound seats : List (ℕ × ℕ)) where
  -- for the classes of the first seats
  pub record ArePlacesTo (n : ℕ) (places : List ℕ) : Type 0 where
    pub within : All (λ p. p < length bound) places
    pub each : (k : ℕ) → k < n → (p : ℕ) × Contains places p
        × (class_at seats k ≡ number_of g (node_at bound p))

  pub places-start : ArePlacesTo 0 []
  places-start = record {
    within = All-nil (λ p. p < length bound);
    each = λ k none. absurd (omega (arith, none));
  }

  module _ (seated : AreSeated g bound seats) (n : ℕ) (inside : n < length seats)
      (places : List ℕ) (before : ArePlacesTo n places) where
    -- the seat goes on with the class of the one before it
    pub places-on : 0 < n → class_at seats (n - 1) ≡ class_at seats n
        → ArePlacesTo (n + 1) places
    places-on some same = record {
      within = before.within;
      each = λ k less. go k less (cases_lt k n);
    }
      where
        go : (k : ℕ) → k < n + 1 → (k < n) ⊎ (n ≤ k) → (p : ℕ) × Contains places p
            × (class_at seats k ≡ number_of g (node_at bound p))
        go k less (inl earlier) = before.each k earlier
        go k less (inr late) =
            let here : n ≡ k = omega (arith, less, late) in
            let found = before.each (n - 1) (omega (arith, some)) in
            (found.0, found.1, ap (class_at seats) (sym here) ∙ sym same ∙ found.2)

    module _ (seat : ℕ × ℕ) (read : seat ≡ get_or seats n seat) where
      at : get_or seats n (0, 0) ≡ seat
      at = sym (read ∙ get_or_default seats n seat (0, 0) inside)

      right : (seat.1 < length bound) × (seat.0 ≡ number_of g (node_at bound seat.1))
      right = All-contains (λ (s : ℕ × ℕ). (s.1 < length bound)
          × (s.0 ≡ number_of g (node_at bound s.1))) seats seat seated.right
          (n, inside, sym read)

      -- another class starts there
      pub places-new : ArePlacesTo (n + 1) (places ++ seat.1 ∷ [])
      places-new = record {
        within = All-push (λ p. p < length bound) places seat.1 before.within right.0;
        each = λ k less. go k less (cases_lt k n);
      }
        where
          go : (k : ℕ) → k < n + 1 → (k < n) ⊎ (n ≤ k) → (p : ℕ)
              × Contains (places ++ seat.1 ∷ []) p
              × (class_at seats k ≡ number_of g (node_at bound p))
          go k less (inl earlier) =
              let found = before.each k earlier in
              (found.0, Contains-append_left places (seat.1 ∷ []) found.0 found.1, found.2)
          go k less (inr late) =
              let here : n ≡ k = omega (arith, less, late) in (
                seat.1,
                Contains-push places seat.1,
                ap (class_at seats) (sym here) ∙ ap (λ (s : ℕ × ℕ). s.0) at ∙ right.1,
              )

  pub places-done : AreSeated g bound seats → (n : ℕ) → length seats ≤ n → (places sorted : List ℕ)
      → ArePlacesTo n places → IsPermutation places sorted → AreClassPlaces g bound sorted
  places-done seated n all places sorted so permuted = record {
    within = All-permutation (λ p. p < length bound) places sorted permuted so.within;
    each = λ i inside. each (seated.each i inside);
  }
    where
      each : {i : ℕ} → Contains seats (number_of g (node_at bound i), i)
          → StandsAtOne g bound sorted (node_at bound i)
      each {i} there =
          let found = so.each there.0 (omega (arith, there.1, all)) in
          let read : get_or seats there.0 (0, 0) ≡ (number_of g (node_at bound i), i) =
          get_or_default seats there.0 (0, 0) (number_of g (node_at bound i), i) there.1
          ∙ there.2 in (
            found.0,
            Contains-permutation places sorted found.0 permuted found.1,
            sym (ap (λ (s : ℕ × ℕ). s.0) read) ∙ found.2,
          )

-- ---- the nodes at these places

module _ (g : Graph) (bound : List (ℕ × ℕ)) (places : List ℕ)
    (are : AreClassPlaces g bound places) where
  chosen_in : (p : ℕ × ℕ) → Contains (map (pair_at bound) places) p → Contains bound p
  chosen_in p h =
      let found = Contains-of_map (pair_at bound) places p h in
      let inside = All-contains (λ k. k < length bound) places found.0 are.within found.1 in
      (found.0, inside, get_or_default bound found.0 p (0, 0) inside ∙ found.2)

  chosen_for : (p : ℕ × ℕ) → Contains bound p
      → StandsAmong g (map (pair_at bound) places) p.0
  chosen_for p there =
      let found = are.each there.0 there.1 in
      let read : get_or bound there.0 (0, 0) ≡ p =
      get_or_default bound there.0 (0, 0) p there.1 ∙ there.2 in (
        pair_at bound found.0,
        Contains-map (pair_at bound) places found.0 found.1,
        sym (ap (λ (q : ℕ × ℕ). number_of g q.0) read) ∙ found.2,
      )

  pub chosen_at : AreChosen g bound (map (pair_at bound) places)
  chosen_at = record {
    among = All-each (Contains bound) (map (pair_at bound) places) chosen_in;
    each = All-each (λ (p : ℕ × ℕ). StandsAmong g (map (pair_at bound) places) p.0) bound
        chosen_for;
  }
