-- The first numerals of classes.
use Rattle.std.proofs.Common.{◌≡◌, ℕ, ◌+◌, ◌-◌, ◌<◌, ◌≤◌, List, [], ◌∷◌, ◌++◌, inl, inr, min, length, take, get_or, set, refl, ap, sym, subst, ◌∙◌, arith, get_or-set_same, get_or-set_other, length-set}
use Rattle.std.proofs.lemmas.Bool.{cases_eq, cases_lt}
use Rattle.std.proofs.lemmas.Bool.Decides.{nat_tests}
use Rattle.std.proofs.lemmas.List.{get_or_default, get_or_append_left, get_or-append_right, get_or_at, get_or-take, length-append, length_push, length-take}
use Rattle.esc_nodes.specs.Nodes.{Shape, shape_at}
use Rattle.esc_union.specs.Merges.{SameClass, AreMerges, class_number}
use Rattle.esc_union.specs.Members.{members_of}
use Rattle.esc_union.proofs.Members.{IsTold, are_told, members_of-grown, members_of-kept, members_of-beyond, stays}
use Rattle.esc_egraph.specs.PartsInside.{IsNumeral, IsFirst, AreNumbered, joined_place}

-- what is read at the first place is a numeral
pub numeral_read : (nodes : List Shape) (members numerals : List ℕ) (i root place : ℕ) →
    IsFirst nodes members (get_or numerals root 0) → i ≡ root → root < length numerals → place
    ≡ get_or numerals i place → place < length members →
    (x : ℕ) → x ≡ get_or members place x → IsNumeral (shape_at nodes x).top
numeral_read nodes members numerals i root place is at low read l x x_read =
    let place_is : place ≡ get_or numerals root 0 = read
    ∙ (ap (λ j. get_or numerals j place) at ∙ get_or_default numerals root place 0 low) in
    subst (λ y. IsNumeral (shape_at nodes y).top)
    (sym (x_read ∙ (get_or_default members place x 0 l ∙ ap (λ j. get_or members j 0) place_is)))
    (is.is (omega (arith, l, place_is)))

module _ (nodes : List Shape) (xs ys : List ℕ) (v w : ℕ) (x_is : IsFirst nodes xs v)
    (y_is : IsFirst nodes ys w) where
  left_at : (i : ℕ) → i < length xs → get_or (xs ++ ys) i 0 ≡ get_or xs i 0
  left_at i l = get_or_append_left xs ys 0 i l

  right_at : (i : ℕ) → length xs ≤ i → get_or (xs ++ ys) i 0 ≡ get_or ys (i - length xs) 0
  right_at i l = get_or-append_right xs ys (length xs) i 0 (λ k. length xs) l

  at_left : v < length xs → IsFirst nodes (xs ++ ys) v
  at_left l = record {
    is = λ h. subst (λ y. IsNumeral (shape_at nodes y).top) (sym (left_at v l)) (x_is.is l);
    before = λ i il iv. λ n. x_is.before i (omega (arith, iv, l)) iv
        (subst (λ y. IsNumeral (shape_at nodes y).top) (left_at i (omega (arith, iv, l))) n);
  }

  at_right : length xs ≤ v → IsFirst nodes (xs ++ ys) (length xs + min w (length ys))
  at_right l = record {
    is = λ h.
        let in_ys : w < length ys = omega (arith, h, length-append xs ys) in
        let at : get_or (xs ++ ys) (length xs + min w (length ys)) 0 ≡ get_or ys w 0 =
        right_at (length xs + min w (length ys)) (omega arith)
        ∙ ap (λ j. get_or ys j 0) (let e : (length xs + min w (length ys)) - length xs
        ≡ w = omega (arith, in_ys) in e) in
        subst (λ y. IsNumeral (shape_at nodes y).top) (sym at) (y_is.is in_ys);
    before = λ i il iv. elim (cases_lt i (length xs)) [
      | inl less ↦ λ n. x_is.before i less (omega (arith, less, l))
          (subst (λ y. IsNumeral (shape_at nodes y).top) (left_at i less) n)
      | inr past ↦ λ n. y_is.before (i - length xs) (omega (arith, il, past, length-append xs ys))
          (omega (arith, iv, past))
          (subst (λ y. IsNumeral (shape_at nodes y).top) (right_at i past) n)
    ];
  }

  pub IsFirst-append : IsFirst nodes (xs ++ ys) (joined_place v w (length xs) (length ys))
  IsFirst-append =
      elim (cases_lt v (length xs)) [
        | inl l ↦
            let e : joined_place v w (length xs) (length ys) ≡ v = grind (arith, nat_tests) in
            subst (λ p. IsFirst nodes (xs ++ ys) p) (sym e) (at_left l)
        | inr l ↦
            let e : joined_place v w (length xs) (length ys) ≡ length xs
            + min w (length ys) = grind (arith, nat_tests) in
            subst (λ p. IsFirst nodes (xs ++ ys) p) (sym e) (at_right l)
      ]

-- the first place among the first members
pub IsFirst-front : (nodes : List Shape) (xs ys : List ℕ) (v : ℕ) → IsFirst nodes (xs ++ ys) v
    → IsFirst nodes xs v
IsFirst-front nodes xs ys v is = record {
  is = λ l. subst (λ y. IsNumeral (shape_at nodes y).top) (get_or_append_left xs ys 0 v l)
      (is.is (omega (arith, l, length-append xs ys)));
  before = λ i l iv n. is.before i (omega (arith, l, length-append xs ys)) iv
      (subst (λ y. IsNumeral (shape_at nodes y).top) (sym (get_or_append_left xs ys 0 i l)) n);
}

-- ---- two classes are merged

module _ (nodes : List Shape) (ms : List (ℕ × ℕ)) (m : ℕ × ℕ) (numerals : List ℕ)
    (are : AreMerges (length nodes) ms)
    (there : m.0 < length nodes) (there_too : m.1 < length nodes)
    (apart : SameClass (class_number ms) m.0 m.1 → ⊥) where
  told : IsTold (length nodes) ms
  told = are_told (length nodes) ms are

  -- how many members there are then
  pub members_then : (all into moved : ℕ) → all ≡ length
      (members_of (ms ++ (m ∷ [])) (class_number (ms ++ (m ∷ [])) m.1)) →
      moved ≡ length (members_of ms (class_number ms m.0)) →
      all ≡ length (members_of ms (class_number ms m.1)) + moved
  members_then all into moved all_is moved_is =
      let still : class_number (ms ++ (m ∷ [])) m.1 ≡ class_number ms m.1 =
      stays (length nodes) ms m told there there_too apart m.1 (λ e. apart (sym e)) in
      let grown : members_of (ms ++ (m ∷ [])) (class_number (ms ++ (m ∷ [])) m.1)
      ≡ members_of ms (class_number ms m.1) ++ members_of ms (class_number ms m.0) =
      ap (members_of (ms ++ (m ∷ []))) still ∙ members_of-grown ms m (class_number ms m.1) refl in
      omega (
        arith,
        all_is,
        moved_is,
        ap length grown,
        length-append
            (members_of ms (class_number ms m.1)) (members_of ms (class_number ms m.0)),
      )

  pub AreNumbered-merged : AreNumbered nodes ms numerals → (place : ℕ) →
      place ≡ joined_place (get_or numerals (class_number ms m.1) 0)
      (get_or numerals (class_number ms m.0) 0)
      (length (members_of ms (class_number ms m.1))) (length (members_of ms (class_number ms m.0)))
      →
      AreNumbered nodes (ms ++ (m ∷ [])) (set numerals (class_number ms m.1) place)
  AreNumbered-merged is place e = record {
    as_many = length-set numerals (class_number ms m.1) place ∙ is.as_many;
    first = λ k l. elim (cases_eq k (class_number ms m.1)) [
      | inl f ↦ rw (
        f,
        members_of-grown ms m (class_number ms m.1) refl,
        get_or-set_same numerals (class_number ms m.1) place 0
            (omega (arith, told.low m.1 there_too, is.as_many)),
        e,
      )
          (IsFirst-append nodes (members_of ms (class_number ms m.1))
          (members_of ms (class_number ms m.0)) _ _
          (is.first (class_number ms m.1) (told.low m.1 there_too))
          (is.first (class_number ms m.0) (told.low m.0 there)))
      | inr ne ↦ rw (
        members_of-kept ms m k ne,
        get_or-set_other numerals (class_number ms m.1) k
            place 0 ne,
      ) (is.first k l)
    ];
  }

-- ---- the last merge is taken back

pub AreNumbered-parted : (nodes : List Shape) (ms : List (ℕ × ℕ)) (m : ℕ × ℕ) (numerals : List ℕ) →
    AreNumbered nodes (ms ++ (m ∷ [])) numerals → AreNumbered nodes ms numerals
AreNumbered-parted nodes ms m numerals is = record {
  as_many = is.as_many;
  first = λ k l. elim (cases_eq k (class_number ms m.1)) [
    | inl f ↦ IsFirst-front nodes (members_of ms k) (members_of ms (class_number ms m.0))
        (get_or numerals k 0)
        (subst (λ xs. IsFirst nodes xs (get_or numerals k 0)) (members_of-grown ms m k f)
        (is.first k l))
    | inr ne ↦ subst (λ xs. IsFirst nodes xs (get_or numerals k 0)) (members_of-kept ms m k ne)
        (is.first k l)
  ];
}

-- ---- a node comes, and the last one goes

IsFirst-nodes : (nodes others : List Shape) (xs : List ℕ) (v : ℕ) →
    ((i : ℕ) → i < length xs → shape_at others (get_or xs i 0) ≡ shape_at nodes (get_or xs i 0))
    → IsFirst nodes xs v → IsFirst others xs v
IsFirst-nodes nodes others xs v same is = record {
  is = λ l. subst (λ (s : Shape). IsNumeral s.top) (sym (same v l)) (is.is l);
  before = λ i l iv n. is.before i l iv (subst (λ (s : Shape). IsNumeral s.top) (same i l) n);
}

pub AreNumbered-made : (nodes : List Shape) (s : Shape) (ms : List (ℕ × ℕ)) (numerals : List ℕ)
    (place : ℕ) → AreMerges (length nodes) ms →
    ((k : ℕ) → k < length nodes → (i : ℕ) → i < length (members_of ms k)
    → get_or (members_of ms k) i 0 < length nodes) →
    AreNumbered nodes ms numerals →
    IsFirst (nodes ++ (s ∷ [])) (length nodes ∷ []) place
    → AreNumbered (nodes ++ (s ∷ [])) ms (numerals ++ (place ∷ []))
AreNumbered-made nodes s ms numerals place are low is alone = record {
  as_many = omega (arith, length_push nodes s, length_push numerals place, is.as_many);
  first = λ k l. elim (cases_lt k (length nodes)) [
    | inl old ↦ subst (λ p. IsFirst (nodes ++ (s ∷ [])) (members_of ms k) p)
        (sym (get_or_append_left numerals (place ∷ []) 0 k (omega (arith, old, is.as_many))))
        (IsFirst-nodes nodes (nodes ++ (s ∷ [])) (members_of ms k) (get_or numerals k 0)
        (λ i il. get_or_append_left nodes (s ∷ []) _ (get_or (members_of ms k) i 0)
        (low k old i il)) (is.first k old))
    | inr new ↦
        let last : k ≡ length nodes = omega (arith, l, new, length_push nodes s) in
        subst (λ p. IsFirst (nodes ++ (s ∷ [])) (members_of ms k) p)
        (sym (get_or_at numerals place [] 0 k (omega (arith, last, is.as_many))))
        (subst (λ xs. IsFirst (nodes ++ (s ∷ [])) xs place)
        (ap (λ j. j ∷ []) (sym last) ∙ sym (members_of-beyond (length nodes) ms are.there k new))
        alone)
  ];
}

pub AreNumbered-fewer : (nodes : List Shape) (ms : List (ℕ × ℕ)) (numerals : List ℕ) (n : ℕ) → n + 1
    ≡ length nodes →
    ((k : ℕ) → k < n → (i : ℕ) → i < length (members_of ms k) → get_or (members_of ms k) i 0 < n) →
    AreNumbered nodes ms numerals → AreNumbered (take n nodes) ms (take n numerals)
AreNumbered-fewer nodes ms numerals n fewer low is =
    let count : length (take n nodes) ≡ n = omega (arith, fewer, length-take n nodes) in
    record {
      as_many = omega (arith, count, length-take n numerals, is.as_many, fewer);
      first = λ k l.
          let kn : k < n = omega (arith, l, count) in
          subst (λ p. IsFirst (take n nodes) (members_of ms k) p)
          (sym (get_or-take n numerals k 0 kn))
          (IsFirst-nodes nodes (take n nodes) (members_of ms k) (get_or numerals k 0)
          (λ i il. get_or-take n nodes (get_or (members_of ms k) i 0) _ (low k kn i il))
          (is.first k (omega (arith, kn, fewer))));
    }

-- a place that is joined of numbers that are equal to these
pub placed : (place v w x y v' w' x' y' : ℕ) → place ≡ joined_place v w x y → v ≡ v' → w ≡ w' → x
    ≡ x' → y ≡ y' → place ≡ joined_place v' w' x' y'
placed place v w x y v' w' x' y' e ev ew ex ey =
    e ∙ (ap (λ i. joined_place i w x y) ev ∙ (ap (λ i. joined_place v' i x y) ew
    ∙ (ap (λ i. joined_place v' w' i y) ex ∙ ap (λ i. joined_place v' w' x' i) ey)))
