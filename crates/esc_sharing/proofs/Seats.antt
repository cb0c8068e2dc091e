-- The known nodes, side by side for each class, and the order in which they are told.
use Rattle.std.proofs.Common.{◌≡◌, ℕ, ◌+◌, ◌-◌, ◌<◌, ◌≤◌, inl, inr, List, [], ◌∷◌}
use Rattle.std.proofs.Common.{◌++◌, length, get_or, refl, ap, sym, subst, ◌∙◌, arith, length-append}
use Rattle.std.specs.List.{All, Contains}
use Rattle.std.specs.List.Sorted.{IsNonDecreasingBy, IsPermutation}
use Rattle.std.proofs.lemmas.Bool.{cases_lt}
use Rattle.std.proofs.lemmas.List.{get_or_append_left, get_or_default, get_or_push}
use Rattle.std.proofs.lemmas.List.Elements.{All-get_or, All-push}
use Rattle.std.proofs.lemmas.List.Elements.{Contains-append_left, Contains-get_or, Contains-push}
use Rattle.std.proofs.lemmas.List.Sorted.{All-permutation, Contains-permutation}
use Rattle.esc_union.specs.Merges.{SameClass}
use Rattle.esc_egraph.specs.Graph.{Graph, number_of}
use Rattle.esc_sharing.specs.KnownInside.{StartsAt, class_at, node_at}
use Rattle.esc_sharing.specs.SettlingInside.{AreSeated, IsOrder}
use Rattle.esc_sharing.specs.declared.telling.Telling.{Telling}
use Rattle.esc_sharing.proofs.Lists.{All-each}

-- ---- seats

abbrev pub IsSeat : Graph → List (ℕ × ℕ) → ℕ × ℕ → Type 0
IsSeat g known seat = (seat.1 < length known) × (seat.0 ≡ number_of g (node_at known seat.1))

module _ (g : Graph) (known seats : List (ℕ × ℕ)) (place root : ℕ) (entry : ℕ × ℕ)
    (within : place < length known) (read : entry ≡ get_or known place entry)
    (number : root ≡ number_of g entry.0) where
  root_is : root ≡ number_of g (node_at known place)
  root_is = number
      ∙ ap (λ (e : ℕ × ℕ). number_of g e.0) (read ∙ get_or_default known place entry (0, 0) within)

  pub seats_right : All (IsSeat g known) seats → All (IsSeat g known) (seats ++ (root, place) ∷ [])
  seats_right right = All-push (IsSeat g known) seats (root, place) right (within, root_is)

  pub seats_each : ((i : ℕ) → i < place → Contains seats (number_of g (node_at known i), i))
      → (i : ℕ) → i < place + 1
      → Contains (seats ++ (root, place) ∷ []) (number_of g (node_at known i), i)
  seats_each each i l =
      elim (cases_lt i place) [
        | inl before ↦ Contains-append_left seats ((root, place) ∷ []) _ (each i before)
        | inr last ↦
            let at : place ≡ i = omega (arith, l, last) in
            subst (λ k. Contains (seats ++ (root, place) ∷ []) (number_of g (node_at known k), k))
            at
            (subst (λ n. Contains (seats ++ (root, place) ∷ []) (n, place)) root_is
            (Contains-push seats (root, place)))
      ]

-- ---- one telling for each seat

abbrev pub place_at : List (ℕ × ℕ) → ℕ → ℕ
place_at seats k = (get_or seats k (0, 0)).1

abbrev no_telling : Telling
no_telling = record { turn = 0; first = 0; later = 0 }

abbrev pub telling_at : List Telling → ℕ → Telling
telling_at order k = get_or order k no_telling

-- so many seats have their tellings, and the class of the last one starts there
pub record IsSeating (seats : List (ℕ × ℕ)) (place start : ℕ) (order : List Telling) : Type 0 where
  pub count : length order ≡ place
  pub reached : start ≤ place
  pub later : (k : ℕ) → k < place → (telling_at order k).later ≡ place_at seats k
  pub first : (k : ℕ) → k < place → (j : ℕ) × (j < place)
      × ((telling_at order k).first ≡ place_at seats j) × (class_at seats j ≡ class_at seats k)
  pub same : (k l : ℕ) → k < place → l < place → class_at seats k ≡ class_at seats l
      → (telling_at order k).first ≡ (telling_at order l).first
  pub last : (p : ℕ) → place ≡ p + 1 → (start < place) × (class_at seats start ≡ class_at seats p)
      × ((telling_at order p).first ≡ place_at seats start)

pub seating-starts : (seats : List (ℕ × ℕ)) → IsSeating seats 0 0 []
seating-starts seats = record {
  count = refl;
  reached = omega arith;
  later = λ k l. absurd (omega (arith, l));
  first = λ k l. absurd (omega (arith, l));
  same = λ k j l. absurd (omega (arith, l));
  last = λ p e. absurd (omega (arith, e));
}

pub starts_there : (seats : List (ℕ × ℕ)) (place start now : ℕ) → place < length seats
    → start ≤ place → StartsAt seats place start now → now < length seats
starts_there seats place start now within reached starts = elim starts [
  | inl on ↦ omega (arith, on.0, within, reached)
  | inr other ↦ omega (arith, other.0, within)
]

module _ (seats : List (ℕ × ℕ)) (place start now : ℕ) (order : List Telling) (t : Telling)
    (rising : IsNonDecreasingBy (λ (seat : ℕ × ℕ). seat.0) seats) (within : place < length seats)
    (is : IsSeating seats place start order) (starts : StartsAt seats place start now)
    (is_later : t.later ≡ place_at seats place) (is_first : t.first ≡ place_at seats now)
  where
    abbrev next : List Telling
    next = order ++ t ∷ []

    here : telling_at next place ≡ t
    here = get_or_push order t no_telling place is.count

    before : (k : ℕ) → k < place → telling_at next k ≡ telling_at order k
    before k l = get_or_append_left order (t ∷ []) no_telling k (omega (arith, l, is.count))

    started : now ≤ place
    started = elim starts [
      | inl on ↦ omega (arith, on.0, is.reached)
      | inr other ↦ omega (arith, other.0)
    ]

    one_class : class_at seats now ≡ class_at seats place
    one_class = elim starts [
      | inl on ↦ ap (class_at seats) on.0 ∙ sym on.1
      | inr other ↦ ap (class_at seats) other.0
    ]

    -- those before that stand in the class of this one have the same first one
    same_first : (k : ℕ) → k < place → class_at seats k ≡ class_at seats place
        → (telling_at order k).first ≡ place_at seats now
    same_first k l same =
        let last = is.last (place - 1) (omega (arith, l)) in
        elim starts [
          | inl on ↦ is.same k (place - 1) l (omega (arith, l)) (same ∙ (on.1 ∙ last.1))
              ∙ (last.2 ∙ ap (place_at seats) (sym on.0))
          | inr other ↦
              let up = rising k (place - 1) (0, 0) (omega (arith, l)) (omega (arith, l, within)) in
              let on = rising (place - 1) place (0, 0) (omega (arith, l)) within in
              absurd (other.1 (omega (arith, up, on, same, last.1)))
        ]

    pub seating-more : IsSeating seats (place + 1) now next
    seating-more = record {
      count = omega (arith, length-append order (t ∷ []), is.count);
      reached = omega (arith, started);
      later = λ k l. elim (cases_lt k place) [
        | inl earlier ↦ ap (λ (s : Telling). s.later) (before k earlier) ∙ is.later k earlier
        | inr last ↦ subst (λ j. (telling_at next j).later ≡ place_at seats j)
            (omega (arith, l, last)) (ap (λ (s : Telling). s.later) here ∙ is_later)
      ];
      first = λ k l. elim (cases_lt k place) [
        | inl earlier ↦
            let at = is.first k earlier in
            (at.0, omega (arith, at.1), ap (λ (s : Telling). s.first) (before k earlier) ∙ at.2, at.3)
        | inr last ↦ (
          now,
          omega (arith, started),
          subst (λ j. (telling_at next j).first ≡ place_at seats now) (omega (arith, l, last))
              (ap (λ (s : Telling). s.first) here ∙ is_first),
          subst (λ j. class_at seats now ≡ class_at seats j) (omega (arith, l, last)) one_class,
        )
      ];
      same = λ k j kl jl one. elim (cases_lt k place) [
        | inl ke ↦ elim (cases_lt j place) [
          | inl je ↦ ap (λ (s : Telling). s.first) (before k ke)
              ∙ (is.same k j ke je one ∙ sym (ap (λ (s : Telling). s.first) (before j je)))
          | inr last ↦
              let at : place ≡ j = omega (arith, jl, last) in
              ap (λ (s : Telling). s.first) (before k ke)
              ∙ (same_first k ke (one ∙ ap (class_at seats) (sym at))
              ∙ (sym is_first ∙ (ap (λ (s : Telling). s.first) (sym here)
              ∙ ap (λ i. (telling_at next i).first) at)))
        ]
        | inr ke ↦
            let at : place ≡ k = omega (arith, kl, ke) in
            elim (cases_lt j place) [
              | inl je ↦ ap (λ i. (telling_at next i).first) (sym at)
                  ∙ (ap (λ (s : Telling). s.first) here ∙ (is_first
                  ∙ (sym (same_first j je (sym one ∙ ap (class_at seats) (sym at)))
                  ∙ sym (ap (λ (s : Telling). s.first) (before j je)))))
              | inr last ↦ ap (λ i. (telling_at next i).first)
                  (let both : k ≡ j = omega (arith, at, jl, last) in both)
            ]
      ];
      last = λ p e.
          let at : place ≡ p = omega (arith, e) in (
            omega (arith, started),
            one_class ∙ ap (class_at seats) at,
            subst (λ j. (telling_at next j).first ≡ place_at seats now) at
                (ap (λ (s : Telling). s.first) here ∙ is_first),
          );
    }

-- ---- all of them

module _ (g : Graph) (known seats : List (ℕ × ℕ)) (place start : ℕ) (order moved : List Telling)
    (are : AreSeated g known seats) (all : length seats ≡ place)
    (is : IsSeating seats place start order) (permuted : IsPermutation order moved) where
  seat : (k : ℕ) → k < place → IsSeat g known (get_or seats k (0, 0))
  seat k l = All-get_or (IsSeat g known) seats k (0, 0) (omega (arith, l, all)) are.right

  there : (k : ℕ) → k < place → Contains moved (telling_at order k)
  there k l = Contains-permutation order moved (telling_at order k) permuted
      (Contains-get_or order k no_telling (omega (arith, l, is.count)))

  abbrev IsTelling : Telling → Type 0
  IsTelling t = (t.first < length known) × (t.later < length known)
      × SameClass (number_of g) (node_at known t.first) (node_at known t.later)

  telling_is : (k : ℕ) → k < place → IsTelling (telling_at order k)
  telling_is k l =
      let from = is.first k l in
      let one = seat from.0 from.1 in
      let other = seat k l in (
        subst (λ n. n < length known) (sym from.2) one.0,
        subst (λ n. n < length known) (sym (is.later k l)) other.0,
        ap (λ n. number_of g (node_at known n)) from.2
            ∙ (sym one.1 ∙ (from.3 ∙ (other.1
            ∙ ap (λ n. number_of g (node_at known n)) (sym (is.later k l))))),
      )

  seated : (i : ℕ) → i < length known
      → (k : ℕ) × (k < place) × (class_at seats k ≡ number_of g (node_at known i))
      × (place_at seats k ≡ i)
  seated i l =
      let found = are.each i l in
      let at : get_or seats found.0 (0, 0) ≡ (number_of g (node_at known i), i) =
      get_or_default seats found.0 (0, 0) _ found.1 ∙ found.2 in (
        found.0,
        omega (arith, found.1, all),
        ap (λ (s : ℕ × ℕ). s.0) at,
        ap (λ (s : ℕ × ℕ). s.1) at,
      )

  pub seating-done : IsOrder g known moved
  seating-done = record {
    within = All-permutation IsTelling order moved permuted
        (All-each IsTelling order (λ t h.
        subst IsTelling (get_or_default order h.0 no_telling t h.1 ∙ h.2)
        (telling_is h.0 (omega (arith, h.1, is.count)))));
    each = λ i j il jl same.
        let one = seated i il in
        let other = seated j jl in (
          telling_at order one.0,
          telling_at order other.0,
          there one.0 one.1,
          there other.0 other.1,
          is.same one.0 other.0 one.1 other.1 (one.2 ∙ (same ∙ sym other.2)),
          is.later one.0 one.1 ∙ one.3,
          is.later other.0 other.1 ∙ other.3,
        );
  }
