-- How what is held goes on where nodes come and go, and where classes are merged and parted.
use Rattle.std.proofs.Common.{◌≡◌, ℕ, ◌+◌, ◌-◌, ◌<◌, ◌≤◌, List, [], ◌∷◌, ◌++◌, inl, inr, length, take, map, get_or, set, All, ap, sym, subst, ◌∙◌, length-append, arith, get_or-set_same, get_or-set_other}
use Rattle.std.specs.List.{Contains}
use Rattle.std.proofs.lemmas.Bool.{cases_eq, cases_lt}
use Rattle.std.proofs.lemmas.List.{get_or_default, get_or_append_left, get_or-append_right, get_or-take, get_or-map, length-map, map-set, length-take, length-set, length_push, take-append-le, take-take}
use Rattle.std.proofs.lemmas.List.Elements.{All-weaker}
use Rattle.std.proofs.Math.Seq.{take-append_seam}
use Rattle.esc_union.specs.Merges.{SameClass, IsClassOf, AreMerges, class_number, merge_at}
use Rattle.esc_union.specs.Members.{members_of}
use Rattle.esc_union.specs.PartitionInside.{IsHeld}
use Rattle.esc_union.proofs.Numbers.{class_number-beyond}
use Rattle.esc_union.proofs.Members.{IsTold, are_told, AreMerges-front, AreMerges-last, AreMerges-more, members_of-grown, members_of-kept, members_of-beyond, goes, stays}

pub AreMerges-count : (count other : ℕ) (ms : List (ℕ × ℕ)) → AreMerges count ms
    → All (λ m. (m.0 < other) × (m.1 < other)) ms → AreMerges other ms
AreMerges-count count other ms are there = record { there = there; apart = are.apart }

-- the first of the merges
pub AreMerges-fewer : (count n : ℕ) (ms : List (ℕ × ℕ)) → AreMerges count ms
    → AreMerges count (take n ms)
AreMerges-fewer count n ms are = record {
  there = λ i d l. subst (λ (m : ℕ × ℕ). (m.0 < count) × (m.1 < count))
      (sym (get_or-take n ms i d (in_front i l))) (are.there i d (in_all i l));
  apart = λ i l same.
      let front : take i (take n ms) ≡ take i ms = take-take i n ms (omega (arith, in_front i l)) in
      let at : merge_at (take n ms) i ≡ merge_at ms i = get_or-take n ms i (0, 0) (in_front i l) in
      are.apart i (in_all i l) (rw (front, at) at same);
}
  where
    in_front : (i : ℕ) → i < length (take n ms) → i < n
    in_front i l = omega (arith, l, length-take n ms)

    in_all : (i : ℕ) → i < length (take n ms) → i < length ms
    in_all i l = omega (arith, l, length-take n ms)

-- the last of a list that is one longer
pub get_or-last : {X : Type 0} (xs : List X) (x d : X) (i : ℕ) → i ≡ length xs
    → get_or (xs ++ (x ∷ [])) i d ≡ x
get_or-last xs x d i e =
    get_or-append_right xs (x ∷ []) (length xs) i d (λ k. length xs) (omega (arith, e))
    ∙ ap (λ j. get_or (x ∷ []) j d) (let none : i - length xs ≡ 0 = omega (arith, e) in none)

-- what a read gives, where its place is known by an equation
pub read_root : (xs : List ℕ) (i k x : ℕ) → i ≡ k → k < length xs → x ≡ get_or xs i x → x
    ≡ get_or xs k 0
read_root xs i k x e l read = read ∙ (ap (λ j. get_or xs j x) e ∙ get_or_default xs k x 0 l)

module _ (ms : List (ℕ × ℕ)) (roots : List ℕ) (members : List (List ℕ)) (absorbed : List ℕ)
    (held : IsHeld ms roots members absorbed) where
  pub told : IsTold (length roots) ms
  told = are_told (length roots) ms held.are

  pub root_low : (k : ℕ) → k < length roots → get_or roots k 0 < length roots
  root_low k l = omega (arith, held.numbered k l, told.low k l)

  pub root_own : (k : ℕ) → k < length roots → class_number ms (get_or roots k 0) ≡ get_or roots k 0
  root_own k l = ap (class_number ms) (held.numbered k l)
      ∙ (told.still k l ∙ sym (held.numbered k l))

  -- the members of a root are nodes
  pub members_low : (s : ℕ) → s < length roots → class_number ms s ≡ s
      → All (λ n. n < length roots) (get_or members s [])
  members_low s l own i d il =
      let read : get_or members s [] ≡ members_of ms s = held.listed s l in
      ((told.exact s (get_or (get_or members s []) i d) l own).0
      (subst (λ xs. Contains xs (get_or (get_or members s []) i d)) read
      (i, il, get_or_default (get_or members s []) i (get_or (get_or members s []) i d) d il))).0

  pub class_listed : (node r : ℕ) → node < length roots → r ≡ get_or roots node 0
      → IsClassOf (length roots) (class_number ms) node (get_or members r [])
  class_listed node r l e =
      let is : r ≡ class_number ms node = e ∙ held.numbered node l in
      let r_low : r < length roots = omega (arith, is, told.low node l) in
      let own : class_number ms r ≡ r = ap (class_number ms) is ∙ (told.still node l ∙ sym is) in
      rw (held.listed r r_low) (record {
        exact = λ n. (
          λ c. let h = (told.exact r n r_low own).0 c in (h.0, h.1 ∙ is),
          λ h. (told.exact r n r_low own).1 (h.0, h.1 ∙ sym is),
        );
        once = told.once r r_low own;
      })

  -- ---- a node comes

  pub IsHeld-push : IsHeld ms (roots ++ (length roots ∷ [])) (members ++ ((length roots ∷ []) ∷ []))
      absorbed
  IsHeld-push =
      let more : length (roots ++ (length roots ∷ [])) ≡ length roots
      + 1 = length_push roots (length roots) in
      record {
        are = AreMerges-count (length roots) (length (roots ++ (length roots ∷ []))) ms held.are
            (All-weaker (λ (m : ℕ × ℕ). (m.0 < length roots) × (m.1 < length roots))
            (λ m. (m.0 < length (roots ++ (length roots ∷ [])))
            × (m.1 < length (roots ++ (length roots ∷ []))))
            (λ m h. (omega (arith, more, h.0), omega (arith, more, h.1))) ms held.are.there);
        numbered = λ k l. elim (cases_lt k (length roots)) [
          | inl old ↦ get_or_append_left roots (length roots ∷ []) 0 k old ∙ held.numbered k old
          | inr new ↦
              let last : k ≡ length roots = omega (arith, l, more, new) in
              get_or-last roots (length roots) 0 k last
              ∙ (sym last ∙ sym ((class_number-beyond (length roots) ms held.are.there).1 k
              new))
        ];
        as_long = omega (arith, more, length_push members (length roots ∷ []), held.as_long);
        listed = λ k l. elim (cases_lt k (length roots)) [
          | inl old ↦ get_or_append_left members ((length roots ∷ []) ∷ []) [] k
              (omega (arith, old, held.as_long)) ∙ held.listed k old
          | inr new ↦
              let last : k ≡ length roots = omega (arith, l, more, new) in
              get_or-last members (length roots ∷ []) [] k (omega (arith, last, held.as_long))
              ∙ (ap (λ n. n ∷ []) (sym last) ∙ sym
              (members_of-beyond (length roots) ms held.are.there k new))
        ];
        as_many = held.as_many;
        noted = held.noted;
      }

  -- ---- the last node goes

  pub IsHeld-pop : (n : ℕ) → n + 1 ≡ length roots → All (λ m. (m.0 + 1 < length roots)
      × (m.1 + 1 < length roots)) ms →
      IsHeld ms (take n roots) (take n members) absorbed
  IsHeld-pop n fewer alone =
      let count : length (take n roots) ≡ n = omega (arith, fewer, length-take n roots) in
      record {
        are = AreMerges-count (length roots) (length (take n roots)) ms held.are
            (All-weaker (λ (m : ℕ × ℕ). (m.0 + 1 < length roots) × (m.1 + 1 < length roots))
            (λ m. (m.0 < length (take n roots)) × (m.1 < length (take n roots)))
            (λ m h. (omega (arith, count, fewer, h.0), omega (arith, count, fewer, h.1))) ms alone);
        numbered = λ k l. get_or-take n roots k 0 (omega (arith, l, count))
            ∙ held.numbered k (omega (arith, l, count, fewer));
        as_long = omega (arith, count, fewer, length-take n members, held.as_long);
        listed = λ k l. get_or-take n members k [] (omega (arith, l, count))
            ∙ held.listed k (omega (arith, l, count, fewer));
        as_many = held.as_many;
        noted = held.noted;
      }

  -- ---- two classes are merged

  module _ (m : ℕ × ℕ) (there : m.0 < length roots) (there_too : m.1 < length roots)
      (apart : SameClass (class_number ms) m.0 m.1 → ⊥)
      (moving roots' : List ℕ) (is_moving : moving ≡ get_or members (class_number ms m.0) [])
      (count : length roots' ≡ length roots)
      (these : (k : ℕ) → Contains moving k → get_or roots' k 0 ≡ class_number ms m.1)
      (others : (k : ℕ) → (Contains moving k → ⊥) → get_or roots' k 0 ≡ get_or roots k 0) where
    moving_is : moving ≡ members_of ms (class_number ms m.0)
    moving_is = is_moving ∙ held.listed (class_number ms m.0) (told.low m.0 there)

    has : (k : ℕ) → k < length roots → class_number ms k ≡ class_number ms m.0 → Contains moving k
    has k l e =
        subst (λ xs. Contains xs k) (sym moving_is)
        ((told.exact (class_number ms m.0) k (told.low m.0 there) (told.still m.0 there)).1 (l, e))

    has_only : (k : ℕ) → Contains moving k → class_number ms k ≡ class_number ms m.0
    has_only k c =
        ((told.exact (class_number ms m.0) k (told.low m.0 there) (told.still m.0 there)).0
        (subst (λ xs. Contains xs k) moving_is c)).1

    numbered_more : (k : ℕ) → k < length roots' → get_or roots' k 0
        ≡ class_number (ms ++ (m ∷ [])) k
    numbered_more k l =
        let kl : k < length roots = omega (arith, l, count) in
        elim (cases_eq (class_number ms k) (class_number ms m.0)) [
          | inl e ↦ these k (has k kl e) ∙ sym (goes (length roots) ms m told there there_too
              apart k e)
          | inr ne ↦ others k (λ c. ne (has_only k c))
              ∙ (held.numbered k kl ∙ sym (stays (length roots) ms m told there there_too
              apart k ne))
        ]

    listed_more : (k : ℕ) → k < length roots →
        get_or (set members (class_number ms m.1) (get_or members (class_number ms m.1) []
        ++ get_or members (class_number ms m.0) [])) k []
        ≡ members_of (ms ++ (m ∷ [])) k
    listed_more k l =
        let both : List ℕ = get_or members (class_number ms m.1) []
        ++ get_or members (class_number ms m.0) [] in
        let into_in : class_number ms m.1 < length members = omega
        (arith, told.low m.1 there_too, held.as_long) in
        elim (cases_eq k (class_number ms m.1)) [
          | inl e ↦ ap (λ i. get_or (set members (class_number ms m.1) both) i []) e
              ∙ (get_or-set_same members (class_number ms m.1) both [] into_in
              ∙ (ap (λ x. x ++ get_or members (class_number ms m.0) [])
              (held.listed (class_number ms m.1) (told.low m.1 there_too))
              ∙ (ap (λ x. members_of ms (class_number ms m.1)
              ++ x) (held.listed (class_number ms m.0) (told.low m.0 there))
              ∙ (sym (members_of-grown ms m (class_number ms m.1) (λ i. class_number ms m.1))
              ∙ ap (members_of (ms ++ (m ∷ []))) (sym e)))))
          | inr ne ↦ get_or-set_other members (class_number ms m.1) k both [] ne
              ∙ (held.listed k l ∙ sym (members_of-kept ms m k ne))
        ]

    noted_more : (i : ℕ) → i < length (ms ++ (m ∷ [])) →
        get_or (absorbed ++ (class_number ms m.0 ∷ [])) i 0
        ≡ class_number (take i (ms ++ (m ∷ []))) (merge_at (ms ++ (m ∷ [])) i).0
    noted_more i l =
        elim (cases_lt i (length ms)) [
          | inl less ↦
              let front : take i (ms ++ (m ∷ [])) ≡ take i ms = take-append-le i ms (m
              ∷ []) (omega (arith, less)) in
              let at : merge_at (ms ++ (m ∷ [])) i
              ≡ merge_at ms i = get_or_append_left ms (m ∷ []) (0, 0) i less in
              rw (front, at) (get_or_append_left absorbed (class_number ms m.0 ∷ []) 0 i
              (omega (arith, less, held.as_many)) ∙ held.noted i less)
          | inr new ↦
              let last : i ≡ length ms = omega (arith, l, new, length_push ms m) in
              let front : take i (ms ++ (m ∷ [])) ≡ ms = ap (λ j. take j (ms ++ (m ∷ []))) last
              ∙ take-append_seam ms (m ∷ []) in
              let at : merge_at (ms ++ (m ∷ [])) i ≡ m = get_or-last ms m (0, 0) i last in
              rw (front, at) (get_or-last absorbed (class_number ms m.0) 0 i
              (omega (arith, last, held.as_many)))
        ]

    pub IsHeld-merge : IsHeld (ms ++ (m ∷ [])) roots'
        (set members (class_number ms m.1) (get_or members (class_number ms m.1) []
        ++ get_or members (class_number ms m.0) []))
        (absorbed ++ (class_number ms m.0 ∷ []))
    IsHeld-merge = record {
      are = subst (λ n. AreMerges n (ms ++ (m ∷ []))) (sym count)
          (AreMerges-more (length roots) ms m held.are there there_too apart);
      numbered = numbered_more;
      as_long = length-set members (class_number ms m.1) _ ∙ (held.as_long ∙ sym count);
      listed = λ k l. listed_more k (omega (arith, l, count));
      as_many = omega (
        arith,
        length_push absorbed (class_number ms m.0),
        length_push ms m,
        held.as_many,
      );
      noted = noted_more;
    }

-- ---- the lists of lists as vectors of vectors

pub read_list : {V : Type 0} (f : V → List ℕ) (vs : List V) (i k : ℕ) (x : V) → i ≡ k → k
    < length vs → x ≡ get_or vs i x →
    f x ≡ get_or (map f vs) k []
read_list f vs i k x e l read = ap f (read ∙ ap (λ j. get_or vs j x) e)
    ∙ sym (get_or-map f vs k x [] l)

module _ {V : Type 0} (f : V → List ℕ) (ms : List (ℕ × ℕ)) (roots absorbed : List ℕ)
    (vs ws : List V) (held : IsHeld ms roots (map f vs) absorbed)
    (m : ℕ × ℕ) (there : m.0 < length roots) (there_too : m.1 < length roots)
    (apart : SameClass (class_number ms) m.0 m.1 → ⊥)
    (s r : ℕ) (s_is : s ≡ class_number ms m.0) (r_is : r ≡ class_number ms m.1)
    (grown : map f ws ≡ set (map f vs) r (get_or (map f vs) r [] ++ get_or (map f vs) s [])) where
  pub as_long_still : length ws ≡ length roots
  as_long_still =
      omega (
        arith,
        length-map ws f,
        ap length grown,
        length-set (map f vs) r
            (get_or (map f vs) r [] ++ get_or (map f vs) s []),
        held.as_long,
      )

  s_low : s < length roots
  s_low = omega (arith, s_is, (told ms roots (map f vs) absorbed held).low m.0 there)

  pub moving_list : (x : V) (i : ℕ) → i ≡ s → x ≡ get_or ws i x → f x ≡ get_or (map f vs) s []
  moving_list x i e read =
      read_list f ws i s x e (omega (arith, s_low, as_long_still)) read
      ∙ (ap (λ l. get_or l s []) grown
      ∙ get_or-set_other (map f vs) r s (get_or (map f vs) r [] ++ get_or (map f vs) s []) []
      (λ k. apart (sym s_is ∙ (k ∙ r_is))))

  pub moving_low : (x : V) (i : ℕ) → i ≡ s → x ≡ get_or ws i x → All (λ n. n < length roots) (f x)
  moving_low x i e read =
      subst (λ xs. All (λ n. n < length roots) xs) (sym (moving_list x i e read))
      (members_low ms roots (map f vs) absorbed held s s_low
      (ap (class_number ms) s_is ∙ ((told ms roots (map f vs) absorbed held).still m.0 there
      ∙ sym s_is)))

  pub merged_held : (x : V) (i : ℕ) → i ≡ s → x ≡ get_or ws i x → (roots' : List ℕ) → length roots'
      ≡ length roots →
      ((k : ℕ) → Contains (f x) k → get_or roots' k 0 ≡ r) →
      ((k : ℕ) → (Contains (f x) k → ⊥) → get_or roots' k 0 ≡ get_or roots k 0) →
      IsHeld (ms ++ (m ∷ [])) roots' (map f ws) (absorbed ++ (s ∷ []))
  merged_held x i e read roots' count these others =
      subst (λ l. IsHeld (ms ++ (m ∷ [])) roots' l (absorbed ++ (s ∷ []))) (sym grown)
      (rw (s_is, r_is) (IsHeld-merge ms roots (map f vs) absorbed held m there there_too apart
      (f x) roots'
      (moving_list x i e read ∙ ap (λ j. get_or (map f vs) j []) s_is) count (λ k c. these k c
      ∙ r_is) others))

-- ---- the last merge is taken back

module _ (ms : List (ℕ × ℕ)) (m : ℕ × ℕ) (roots : List ℕ) (members : List (List ℕ))
    (absorbed : List ℕ) (small : ℕ)
    (held : IsHeld (ms ++ (m ∷ [])) roots members (absorbed ++ (small ∷ []))) where
  pub was_merge : (m.0 < length roots) × (m.1 < length roots)
      × (SameClass (class_number ms) m.0 m.1 → ⊥)
  was_merge = AreMerges-last (length roots) ms m held.are

  pub as_before : IsTold (length roots) ms
  as_before = are_told (length roots) ms (AreMerges-front (length roots) ms m held.are)

  as_many_before : length absorbed ≡ length ms
  as_many_before = omega (arith, length_push absorbed small, length_push ms m, held.as_many)

  pub small_is : small ≡ class_number ms m.0
  small_is =
      let front : take (length ms) (ms ++ (m ∷ [])) ≡ ms = take-append_seam ms (m ∷ []) in
      let at : merge_at (ms ++ (m ∷ [])) (length ms)
      ≡ m = get_or-last ms m (0, 0) (length ms) (λ k. length ms) in
      sym (get_or-last absorbed small 0 (length ms) (sym as_many_before))
      ∙ rw (front, at) at (held.noted (length ms) (omega (arith, length_push ms m)))

  pub small_low : small < length roots
  small_low = omega (arith, small_is, as_before.low m.0 was_merge.0)

  pub large_is : get_or roots m.1 0 ≡ class_number ms m.1
  large_is =
      held.numbered m.1 was_merge.1
      ∙ stays (length roots) ms m as_before was_merge.0 was_merge.1 was_merge.2 m.1
      (λ e. was_merge.2 (sym e))

  pub large_low : get_or roots m.1 0 < length roots
  large_low = omega (arith, large_is, as_before.low m.1 was_merge.1)

  pub moved_list : get_or members small [] ≡ members_of ms small
  moved_list = held.listed small small_low ∙ members_of-kept ms m small
      (λ e. was_merge.2 (sym small_is ∙ e))

  pub large_list : get_or members (get_or roots m.1 0) [] ≡ members_of ms (get_or roots m.1 0)
      ++ members_of ms small
  large_list =
      held.listed (get_or roots m.1 0) large_low
      ∙ (members_of-grown ms m (get_or roots m.1 0) large_is
      ∙ ap (λ s. members_of ms (get_or roots m.1 0) ++ members_of ms s) (sym small_is))

  small_own : class_number ms small ≡ small
  small_own = ap (class_number ms) small_is ∙ (as_before.still m.0 was_merge.0 ∙ sym small_is)

  pub moved_low : All (λ n. n < length roots) (get_or members small [])
  moved_low =
      rw moved_list (λ i d il.
      ((as_before.exact small (get_or (members_of ms small) i d) small_low small_own).0
      (i, il, get_or_default (members_of ms small) i (get_or (members_of ms small) i d) d il)).0)

  module _ (roots' : List ℕ) (count : length roots' ≡ length roots)
      (these : (k : ℕ) → Contains (get_or members small []) k → get_or roots' k 0 ≡ small)
      (others : (k : ℕ) → (Contains (get_or members small []) k → ⊥) → get_or roots' k 0
      ≡ get_or roots k 0) where
    numbered_before : (k : ℕ) → k < length roots' → get_or roots' k 0 ≡ class_number ms k
    numbered_before k l =
        let kl : k < length roots = omega (arith, l, count) in
        elim (cases_eq (class_number ms k) small) [
          | inl e ↦ these k (subst (λ xs. Contains xs k) (sym moved_list)
              ((as_before.exact small k small_low small_own).1 (kl, e))) ∙ sym e
          | inr ne ↦ others k (λ c. ne ((as_before.exact small k small_low small_own).0
              (subst (λ xs. Contains xs k) moved_list c)).1)
              ∙ (held.numbered k kl
              ∙ stays (length roots) ms m as_before was_merge.0 was_merge.1 was_merge.2 k
              (λ e. ne (e ∙ sym small_is)))
        ]

    abbrev rest : List ℕ
    rest = take (length (get_or members (get_or roots m.1 0) []) - length (get_or members small []))
        (get_or members (get_or roots m.1 0) [])

    fewer : take (length (get_or members (get_or roots m.1 0) []) - length
        (get_or members small [])) (get_or members (get_or roots m.1 0) [])
        ≡ members_of ms (get_or roots m.1 0)
    fewer =
        let less : length (get_or members (get_or roots m.1 0) []) - length
        (get_or members small []) ≡ length (members_of ms (get_or roots m.1 0)) =
        omega (
          arith,
          ap length large_list,
          ap length moved_list,
          length-append
              (members_of ms (get_or roots m.1 0)) (members_of ms small),
        ) in
        ap (λ n. take n (get_or members (get_or roots m.1 0) [])) less
        ∙ (ap (take (length (members_of ms (get_or roots m.1 0)))) large_list
        ∙ take-append_seam (members_of ms (get_or roots m.1 0)) (members_of ms small))

    pub IsHeld-unmerge : IsHeld ms roots'
        (set members (get_or roots m.1 0)
        (take (length (get_or members (get_or roots m.1 0) []) - length (get_or members small []))
        (get_or members (get_or roots m.1 0) [])))
        absorbed
    IsHeld-unmerge = record {
      are = subst (λ n. AreMerges n ms) (sym count) (AreMerges-front (length roots) ms m held.are);
      numbered = numbered_before;
      as_long = length-set members (get_or roots m.1 0) _ ∙ (held.as_long ∙ sym count);
      listed = λ k l. elim (cases_eq k (get_or roots m.1 0)) [
        | inl e ↦ ap (λ i. get_or (set members (get_or roots m.1 0) rest) i []) e
            ∙ (get_or-set_same members (get_or roots m.1 0) rest []
            (omega (arith, large_low, held.as_long)) ∙ (fewer ∙ ap (members_of ms) (sym e)))
        | inr ne ↦ get_or-set_other members (get_or roots m.1 0) k rest [] ne
            ∙ (held.listed k (omega (arith, l, count))
            ∙ members_of-kept ms m k (λ e. ne (e ∙ sym large_is)))
      ];
      as_many = as_many_before;
      noted = λ i l.
          let front : take i (ms ++ (m ∷ [])) ≡ take i ms = take-append-le i ms (m
          ∷ []) (omega (arith, l)) in
          let at : merge_at (ms ++ (m ∷ [])) i ≡ merge_at ms i = get_or_append_left ms (m
          ∷ []) (0, 0) i l in
          sym (get_or_append_left absorbed (small ∷ []) 0 i (omega (arith, l, as_many_before)))
          ∙ rw (front, at) at (held.noted i (omega (arith, l, length_push ms m)));
    }

module _ {V : Type 0} (f : V → List ℕ) (ms : List (ℕ × ℕ)) (m : ℕ × ℕ) (roots absorbed : List ℕ)
    (vs : List V) (small large : ℕ)
    (held : IsHeld (ms ++ (m ∷ [])) roots (map f vs) (absorbed ++ (small ∷ []))) (is_large : large
    ≡ get_or roots m.1 0) where
  pub small_in : small < length vs
  small_in = omega (
    arith,
    small_low ms m roots (map f vs) absorbed small held,
    held.as_long,
    length-map vs f,
  )

  pub large_in : large < length vs
  large_in = omega (
    arith,
    is_large,
    large_low ms m roots (map f vs) absorbed small held,
    held.as_long,
    length-map vs f,
  )

  pub parting_alone : (x : V) (i : ℕ) → i ≡ small → x ≡ get_or vs i x
      → All (λ n. n < length roots) (f x)
  parting_alone x i i_is x_read =
      subst (λ xs. All (λ n. n < length roots) xs)
      (sym (read_list f vs i small x i_is small_in x_read))
      (moved_low ms m roots (map f vs) absorbed small held)

  module _ (x y : V) (i j : ℕ) (i_is : i ≡ small) (j_is : j ≡ large) (x_read : x ≡ get_or vs i x)
      (y_read : y ≡ get_or vs j y) where
    x_list : f x ≡ get_or (map f vs) small []
    x_list = read_list f vs i small x i_is small_in x_read

    y_list : f y ≡ get_or (map f vs) (get_or roots m.1 0) []
    y_list = read_list f vs j large y j_is large_in y_read
        ∙ ap (λ k. get_or (map f vs) k []) is_large

    pub parting_fits : length (f x) ≤ length (f y)
    parting_fits =
        omega (
          arith,
          ap length x_list,
          ap length y_list,
          ap length (moved_list ms m roots (map f vs) absorbed small held),
          ap length (large_list ms m roots (map f vs) absorbed small held),
          length-append (members_of ms (get_or roots m.1 0)) (members_of ms small),
        )

    pub parted_held : (roots' : List ℕ) → length roots' ≡ length roots →
        ((k : ℕ) → Contains (f x) k → get_or roots' k 0 ≡ small) →
        ((k : ℕ) → (Contains (f x) k → ⊥) → get_or roots' k 0 ≡ get_or roots k 0) →
        (w z : V) (k : ℕ) → k ≡ large → z ≡ get_or vs k z → f w
        ≡ take (length (f y) - length (f x)) (f z)
        → IsHeld ms roots' (map f (set vs large w)) absorbed
    parted_held roots' count these others w z k k_is z_read kept =
        subst (λ l. IsHeld ms roots' l absorbed)
        (sym (map-set f vs large w
        ∙ (ap (λ xs. set (map f vs) large xs) (kept
        ∙ (ap (take (length (f y) - length (f x)))
        (read_list f vs k large z k_is large_in z_read
        ∙ sym (read_list f vs j large y j_is large_in y_read))
        ∙ (ap (λ xs. take (length xs - length (f x)) xs) y_list
        ∙ ap (λ xs. take (length (get_or (map f vs) (get_or roots m.1 0) []) - length xs)
        (get_or (map f vs) (get_or roots m.1 0) [])) x_list)))
        ∙ ap (λ k. set (map f vs) k (take (length (get_or (map f vs) (get_or roots m.1 0) []) -
        length (get_or (map f vs) small [])) (get_or (map f vs) (get_or roots m.1 0) [])))
        is_large)))
        (IsHeld-unmerge ms m roots (map f vs) absorbed small held roots' count
        (λ k c. these k (subst (λ xs. Contains xs k) (sym x_list) c))
        (λ k none. others k (λ c. none (subst (λ xs. Contains xs k) x_list c))))
