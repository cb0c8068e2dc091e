-- What is settled, where classes are merged and where nodes are entered.
use Rattle.std.proofs.Common.{◌≡◌, ◌≢◌, ℕ, zero, suc, ◌+◌, ◌<◌, ◌%◌, ◌^◌, List, [], ◌∷◌, ◌++◌, ◌⊎◌, inl, inr, length, map, get_or, All, refl, ap, sym, subst, ◌∙◌, arith}
use Rattle.std.specs.List.{Any, fold}
use Rattle.std.proofs.lemmas.Bool.{cases_eq, cases_lt}
use Rattle.std.proofs.lemmas.List.{get_or_append_left, get_or_at, length_push, same_lists, get_or-map, length-map}
use Rattle.std.proofs.lemmas.List.Elements.{All-weaker, All-get_or}
use Rattle.esc_nodes.specs.Nodes.{Shape, shape_at, AreTerms}
use Rattle.esc_index.specs.Places.{entry_at}
use Rattle.esc_union.specs.Merges.{SameClass, class_number}
use Rattle.esc_union.proofs.Numbers.{class_number-more, moved_other, same_more}
use Rattle.esc_egraph.specs.Congruence.{AreAlike, IsCongruence}
use Rattle.esc_term.specs.Digest.{mixed}
use Rattle.esc_nodes.specs.TopDigest.{top_digest}
use Rattle.esc_egraph.specs.KeysInside.{key_of}
use Rattle.esc_egraph.specs.PartsInside.{IsMatch, IsWhole}
use Rattle.esc_egraph.specs.ClosingInside.{IsSettled}
use Rattle.esc_egraph.proofs.Joining.{alike_within, alike_back, alike_on}

-- ---- keys

-- lists that stand in one class have the same numbers
pub map-same : (f g : ℕ → ℕ) (xs ys : List ℕ) → length xs ≡ length ys →
    ((k : ℕ) → k < length xs → f (get_or xs k 0) ≡ g (get_or ys k 0)) → map f xs ≡ map g ys
map-same f g xs ys lengths places =
    same_lists (map f xs) (map g ys) (length-map xs f ∙ (lengths ∙ sym (length-map ys g)))
    (λ k d l.
    let xl : k < length xs = omega (arith, l, length-map xs f) in
    let yl : k < length ys = omega (arith, xl, lengths) in
    get_or-map f xs k 0 d xl ∙ (places k xl ∙ sym (get_or-map g ys k 0 d yl)))

pub key_of-alike : (number : ℕ → ℕ) (s t : Shape) → AreAlike number s t → key_of number s
    ≡ key_of number t
unfolding key_of
key_of-alike number s t alike =
    ap (λ k. fold mixed k (map number s.args) % 2 ^ 32) (ap top_digest alike.top)
    ∙ ap (λ ks. fold mixed (top_digest t.top) ks % 2 ^ 32)
    (map-same number number s.args t.args alike.args.lengths alike.args.places)

pub key_of-still : (f g : ℕ → ℕ) (s : Shape) → All (λ a. f a ≡ g a) s.args → key_of f s ≡ key_of g s
unfolding key_of
key_of-still f g s all =
    ap (λ ks. fold mixed (top_digest s.top) ks % 2 ^ 32) (map-same f g s.args s.args refl
    (λ k l. All-get_or (λ a. f a ≡ g a) s.args k 0 l all))

pub alike_still : (f g : ℕ → ℕ) (s t : Shape) → All (λ a. f a ≡ g a) s.args
    → All (λ a. f a ≡ g a) t.args → AreAlike f s t → AreAlike g s t
alike_still f g s t all_s all_t alike = record {
  top = alike.top;
  args = record {
    lengths = alike.args.lengths;
    places = λ k l.
        sym (All-get_or (λ a. f a ≡ g a) s.args k 0 l all_s)
        ∙ (alike.args.places k l ∙ All-get_or (λ a. f a ≡ g a) t.args k 0
        (omega (arith, l, alike.args.lengths)) all_t);
  };
}

pub alike_same : (number : ℕ → ℕ) (s : Shape) → AreAlike number s s
alike_same number s = record { top = refl; args = record { lengths = refl; places = λ k l. refl } }

-- ---- a number among others

-- a list has an element with the number, or none
any_or_all : (number : ℕ → ℕ) (r : ℕ) (xs : List ℕ) → Any (λ a. number a ≡ r) xs
    ⊎ All (λ a. number a ≢ r) xs
any_or_all number r [] = inr (λ k d l. absurd (omega (arith, l)))
any_or_all number r (x ∷ xs) =
    elim (cases_eq (number x) r) [
      | inl e ↦ inl (0, x, omega arith, refl, e)
      | inr ne ↦ elim (any_or_all number r xs) [
        | inl any ↦ inl (suc any.0, any.1, omega (arith, any.2), any.3, any.4)
        | inr all ↦ inr (step x xs ne all)
      ]
    ]
  where
    step : (x : ℕ) (xs : List ℕ) → number x ≢ r → All (λ a. number a ≢ r) xs
        → All (λ a. number a ≢ r) (x ∷ xs)
    step x xs ne all zero d l = ne
    step x xs ne all (suc k) d l = all k d (omega (arith, l))

-- ---- a match

pub match_alike : (nodes : List Shape) (ms table : List (ℕ × ℕ)) (s t : Shape) (place : ℕ)
    → AreAlike (class_number ms) s t →
    IsMatch nodes ms table s place → IsMatch nodes ms table t place
match_alike nodes ms table s t place alike m = record {
  there = m.there;
  node = m.node;
  key = m.key ∙ key_of-alike (class_number ms) s t alike;
  alike = alike_on (class_number ms) _ s t m.alike alike;
}

-- nodes of closed classes are settled, where each has a match
pub settled_start : (nodes : List Shape) (ms table : List (ℕ × ℕ)) (Waits : ℕ → Type 0)
    → IsWhole nodes ms table → IsCongruence nodes (class_number ms) →
    IsSettled nodes ms table Waits
settled_start nodes ms table Waits whole closed = record {
  entered = λ n nl.
      let m = whole n nl in
      inl (m.0, m.1, sym (closed (entry_at table m.0).1 n m.1.node nl m.1.alike));
  joined = λ n place nl m. inl (sym (closed (entry_at table place).1 n m.node nl m.alike));
}

-- where nothing waits the classes are closed, and each node has a match
pub settled_whole : (nodes : List Shape) (ms table : List (ℕ × ℕ)) (Waits : ℕ → Type 0)
    → ((n : ℕ) → n < length nodes → Waits n → ⊥) →
    IsSettled nodes ms table Waits → IsWhole nodes ms table
settled_whole nodes ms table Waits none is n nl = elim (is.entered n nl)
    [ inl m ↦ (m.0, m.1) | inr w ↦ absurd (none n nl w) ]

pub settled_closed : (nodes : List Shape) (ms table : List (ℕ × ℕ)) (Waits : ℕ → Type 0)
    → ((n : ℕ) → n < length nodes → Waits n → ⊥) →
    IsSettled nodes ms table Waits → IsCongruence nodes (class_number ms)
settled_closed nodes ms table Waits none is a b al bl alike =
    elim (is.entered a al) [
      | inl m ↦ elim (is.joined b m.0 bl (match_alike nodes ms table (shape_at nodes a)
          (shape_at nodes b) m.0 alike m.1)) [
            | inl same ↦ m.2 ∙ sym same
            | inr waits ↦ elim waits [
              | inl w ↦ absurd (none b bl w)
              | inr w ↦ absurd
                  (none (entry_at table m.0).1 m.1.node w)
            ]
          ]
      | inr w ↦ absurd (none a al w)
    ]

-- more may wait
pub settled_weaker : (nodes : List Shape) (ms table : List (ℕ × ℕ)) (Waits Waits' : ℕ → Type 0)
    → ((n : ℕ) → n < length nodes → Waits n → Waits' n) →
    IsSettled nodes ms table Waits → IsSettled nodes ms table Waits'
settled_weaker nodes ms table Waits Waits' more is = record {
  entered = λ n nl. elim (is.entered n nl) [ inl m ↦ inl m | inr w ↦ inr (more n nl w) ];
  joined = λ n place nl m. elim (is.joined n place nl m) [
    | inl same ↦ inl same
    | inr waits ↦ inr (elim waits [
      | inl w ↦ inl (more n nl w)
      | inr w ↦ inr
          (more (entry_at table place).1 m.node w)
    ])
  ];
}

-- ---- two classes are merged

module _ (nodes : List Shape) (are : AreTerms nodes) (ms : List (ℕ × ℕ)) (m : ℕ
    × ℕ) (table : List (ℕ × ℕ)) (Waits : ℕ → Type 0) where
  abbrev more : List (ℕ × ℕ)
  more = ms ++ (m ∷ [])

  -- an argument of the node was in the class that is done away with
  abbrev Touched : ℕ → Type 0
  Touched n = Any (λ a. SameClass (class_number ms) a m.0) (shape_at nodes n).args

  still : (n : ℕ) → All (λ a. class_number ms a ≢ class_number ms m.0) (shape_at nodes n).args →
      All (λ a. class_number ms a ≡ class_number (ms ++ (m ∷ [])) a) (shape_at nodes n).args
  still n all = All-weaker (λ a. class_number ms a ≢ class_number ms m.0) (λ a. class_number ms a
      ≡ class_number (ms ++ (m ∷ [])) a)
      (λ a ne. sym (class_number-more ms m a ∙ moved_other (class_number ms m.0)
      (class_number ms m.1) (class_number ms a) ne)) (shape_at nodes n).args all

  args_of : (n : ℕ) → n < length nodes → All (λ a. a < length nodes) (shape_at nodes n).args
  args_of n l = All-weaker (λ a. a < n) (λ a. a < length nodes) (λ a h. omega (arith, h, l)) _
      (are.older n l)

  pub match_more : (n place : ℕ) → n < length nodes
      → All (λ a. class_number ms a ≢ class_number ms m.0) (shape_at nodes n).args →
      IsMatch nodes ms table (shape_at nodes n) place
      → IsMatch nodes (ms ++ (m ∷ [])) table (shape_at nodes n) place
  match_more n place nl all is = record {
    there = is.there;
    node = is.node;
    key = is.key ∙ key_of-still (class_number ms) (class_number (ms ++ (m ∷ []))) (shape_at nodes n)
        (still n all);
    alike = alike_within (length nodes) (class_number ms) (class_number (ms ++ (m ∷ []))) _ _
        (λ a b al bl same. same_more ms m a b same)
        (args_of (entry_at table place).1 is.node) (args_of n nl) is.alike;
  }

  match_less : (n place : ℕ) → All (λ a. class_number ms a ≢ class_number ms m.0)
      (shape_at nodes n).args →
      All (λ a. class_number ms a ≢ class_number ms m.0)
      (shape_at nodes (entry_at table place).1).args →
      IsMatch nodes (ms ++ (m ∷ [])) table (shape_at nodes n) place
      → IsMatch nodes ms table (shape_at nodes n) place
  match_less n place all all_too is = record {
    there = is.there;
    node = is.node;
    key = is.key ∙ sym (key_of-still (class_number ms) (class_number (ms ++ (m ∷ [])))
        (shape_at nodes n) (still n all));
    alike = alike_still (class_number (ms ++ (m ∷ []))) (class_number ms) _ _
        (back (entry_at table place).1 all_too) (back n all) is.alike;
  }
    where
      back : (n : ℕ) → All (λ a. class_number ms a ≢ class_number ms m.0) (shape_at nodes n).args →
          All (λ a. class_number (ms ++ (m ∷ [])) a ≡ class_number ms a) (shape_at nodes n).args
      back n all = All-weaker (λ a. class_number ms a ≡ class_number (ms ++ (m ∷ [])) a)
          (λ a. class_number (ms ++ (m ∷ [])) a ≡ class_number ms a)
          (λ a e. sym e) (shape_at nodes n).args (still n all)

  pub settled_merged : IsSettled nodes ms table Waits →
      IsSettled nodes (ms ++ (m ∷ [])) table (λ n. Waits n
      ⊎ Any (λ a. SameClass (class_number ms) a m.0) (shape_at nodes n).args)
  settled_merged is = record {
    entered = λ n nl. elim (any_or_all (class_number ms) (class_number ms m.0)
        (shape_at nodes n).args) [
          | inl any ↦ inr (inr any)
          | inr all ↦ elim (is.entered n nl) [
            | inl w ↦ inl (
              w.0,
              match_more n w.0 nl all w.1,
              same_more ms m n
                  (entry_at table w.0).1 w.2,
            )
            | inr w ↦ inr (inl w)
          ]
        ];
    joined = λ n place nl w. elim (any_or_all (class_number ms) (class_number ms m.0)
        (shape_at nodes n).args) [
          | inl any ↦ inr (inl (inr any))
          | inr all ↦ elim (any_or_all (class_number ms) (class_number ms m.0)
              (shape_at nodes (entry_at table place).1).args) [
                | inl any ↦ inr (inr (inr any))
                | inr all_too ↦ elim (is.joined n place nl (match_less n place all all_too w)) [
                  | inl same ↦ inl (same_more ms m n (entry_at table place).1 same)
                  | inr waits ↦ inr (elim waits [ inl v ↦ inl (inl v) | inr v ↦ inr (inl v) ])
                ]
              ]
        ];
  }

-- ---- a node is settled

module _ (nodes : List Shape) (ms table : List (ℕ × ℕ)) (Waits : ℕ → Type 0) (p : ℕ) (pl : p
    < length nodes)
    (is : IsSettled nodes ms table (λ n. (n ≡ p) ⊎ Waits n)) where
  -- it stands with all its matches, of which there are some
  pub settled_matched : (place : ℕ) → IsMatch nodes ms table (shape_at nodes p) place →
      ((other : ℕ) → IsMatch nodes ms table (shape_at nodes p) other
      → SameClass (class_number ms) p (entry_at table other).1) →
      IsSettled nodes ms table Waits
  settled_matched place found same = record {
    entered = λ n nl. elim (is.entered n nl) [
      | inl w ↦ inl w
      | inr w ↦ elim w [
        | inl e ↦ inl (rw e (place, found, same place found))
        | inr v ↦ inr v
      ]
    ];
    joined = λ n other nl w. elim (is.joined n other nl w) [
      | inl one ↦ inl one
      | inr waits ↦ elim waits [
        | inl v ↦ elim v [
          | inl e ↦ inl (rw e (same other (subst (λ k. IsMatch nodes ms table (shape_at nodes k)
              other) e w)))
          | inr u ↦ inr (inl u)
        ]
        | inr v ↦ elim v [
          | inl e ↦ with_it n other nl w e
          | inr u ↦ inr (inr u)
        ]
      ]
    ];
  }
    where
      -- a node that has it as a match stands with a match of its own, which is one of this node too
      with_it : (n other : ℕ) → n < length nodes → IsMatch nodes ms table (shape_at nodes n) other
          → (entry_at table other).1 ≡ p →
          SameClass (class_number ms) n (entry_at table other).1
          ⊎ (Waits n ⊎ Waits (entry_at table other).1)
      with_it n other nl w e =
          let alike : AreAlike (class_number ms) (shape_at nodes n) (shape_at nodes p) =
          subst (λ k. AreAlike (class_number ms) (shape_at nodes n) (shape_at nodes k)) e
          (alike_back (class_number ms) _ _ w.alike) in
          elim (is.entered n nl) [
            | inl v ↦ inl (v.2 ∙ (sym (same v.0 (match_alike nodes ms table (shape_at nodes n)
                (shape_at nodes p) v.0 alike v.1)) ∙ ap (class_number ms) (sym e)))
            | inr v ↦ elim v [
              | inl f ↦ inl (ap (class_number ms) (f ∙ sym e))
              | inr u ↦ inr (inl u)
            ]
          ]

  -- it has no match, and is entered
  module _ (none : (place : ℕ) → IsMatch nodes ms table (shape_at nodes p) place → ⊥) where
    abbrev entry : ℕ × ℕ
    entry = (key_of (class_number ms) (shape_at nodes p), p)

    old_entry : (place : ℕ) → place < length table
        → entry_at (table ++ ((key_of (class_number ms) (shape_at nodes p), p) ∷ [])) place
        ≡ entry_at table place
    old_entry place l = get_or_append_left table ((key_of (class_number ms) (shape_at nodes p), p)
        ∷ []) (0, 0) place l

    new_entry : (place : ℕ) → place ≡ length table →
        entry_at (table ++ ((key_of (class_number ms) (shape_at nodes p), p) ∷ [])) place
        ≡ (key_of (class_number ms) (shape_at nodes p), p)
    new_entry place e = get_or_at table (key_of (class_number ms) (shape_at nodes p), p) [] (0, 0)
        place (sym e)

    longer : length (table ++ ((key_of (class_number ms) (shape_at nodes p), p) ∷ []))
        ≡ length table + 1
    longer = length_push table (key_of (class_number ms) (shape_at nodes p), p)

    match_old : (s : Shape) (place : ℕ) → place < length table →
        IsMatch nodes ms (table ++ ((key_of (class_number ms) (shape_at nodes p), p) ∷ [])) s place
        → IsMatch nodes ms table s place
    match_old s place l w = record {
      there = l;
      node = subst (λ (x : ℕ × ℕ). x.1 < length nodes) (old_entry place l) w.node;
      key = subst (λ (x : ℕ × ℕ). x.0 ≡ key_of (class_number ms) s) (old_entry place l) w.key;
      alike = subst (λ (x : ℕ × ℕ). AreAlike (class_number ms) (shape_at nodes x.1) s)
          (old_entry place l) w.alike;
    }

    match_new : (s : Shape) (place : ℕ) → IsMatch nodes ms table s place →
        IsMatch nodes ms (table ++ ((key_of (class_number ms) (shape_at nodes p), p) ∷ [])) s place
    match_new s place w = record {
      there = omega (arith, w.there, longer);
      node = subst (λ (x : ℕ × ℕ). x.1 < length nodes) (sym (old_entry place w.there)) w.node;
      key = subst (λ (x : ℕ × ℕ). x.0 ≡ key_of (class_number ms) s)
          (sym (old_entry place w.there)) w.key;
      alike = subst (λ (x : ℕ × ℕ). AreAlike (class_number ms) (shape_at nodes x.1) s)
          (sym (old_entry place w.there)) w.alike;
    }

    itself : IsMatch nodes ms (table ++ ((key_of (class_number ms) (shape_at nodes p), p) ∷ []))
        (shape_at nodes p) (length table)
    itself =
        let e = sym (new_entry (length table) refl) in
        record {
          there = omega (arith, longer);
          node = subst (λ (x : ℕ × ℕ). x.1 < length nodes) e pl;
          key = subst (λ (x : ℕ × ℕ). x.0 ≡ key_of (class_number ms) (shape_at nodes p)) e refl;
          alike = subst (λ (x : ℕ × ℕ). AreAlike (class_number ms) (shape_at nodes x.1)
              (shape_at nodes p)) e (alike_same (class_number ms) (shape_at nodes p));
        }

    -- no node that is alike to it has a match
    unmatched : (n place : ℕ) → AreAlike (class_number ms) (shape_at nodes n) (shape_at nodes p)
        → IsMatch nodes ms table (shape_at nodes n) place → ⊥
    unmatched n place alike w = none place (match_alike nodes ms table (shape_at nodes n)
        (shape_at nodes p) place alike w)

    joined_old : (n place : ℕ) → n < length nodes → (l : place < length table)
        → IsMatch nodes ms table (shape_at nodes n) place →
        SameClass (class_number ms) n (entry_at table place).1
        ⊎ (Waits n ⊎ Waits (entry_at table place).1)
    joined_old n place nl l w =
        elim (is.joined n place nl w) [
          | inl same ↦ inl same
          | inr waits ↦ elim waits [
            | inl v ↦ elim v [
              | inl e ↦ absurd (none place (subst (λ k. IsMatch nodes ms table (shape_at nodes k)
                  place) e w))
              | inr u ↦ inr (inl u)
            ]
            | inr v ↦ elim v [
              | inl e ↦ absurd (unmatched n place
                  (subst (λ k. AreAlike (class_number ms) (shape_at nodes n) (shape_at nodes k)) e
                  (alike_back (class_number ms) _ _ w.alike)) w)
              | inr u ↦ inr (inr u)
            ]
          ]
        ]

    joined_new : (n : ℕ) → n < length nodes → AreAlike (class_number ms) (shape_at nodes n)
        (shape_at nodes p) →
        SameClass (class_number ms) n p ⊎ (Waits n ⊎ Waits p)
    joined_new n nl alike =
        elim (is.entered n nl) [
          | inl v ↦ absurd (unmatched n v.0 alike v.1)
          | inr v ↦ elim v [ inl e ↦ inl (ap (class_number ms) e) | inr u ↦ inr (inl u) ]
        ]

    pub settled_entered : IsSettled nodes ms (table
        ++ ((key_of (class_number ms) (shape_at nodes p), p) ∷ [])) Waits
    settled_entered = record {
      entered = λ n nl. elim (is.entered n nl) [
        | inl v ↦ inl (
          v.0,
          match_new (shape_at nodes n) v.0 v.1,
          v.2 ∙ ap (λ (x : ℕ × ℕ). class_number ms x.1) (sym (old_entry v.0 v.1.there)),
        )
        | inr v ↦ elim v [
          | inl e ↦ inl (rw e (
            length table,
            itself,
            ap (λ (x : ℕ × ℕ). class_number ms x.1)
                (sym (new_entry (length table) refl)),
          ))
          | inr u ↦ inr u
        ]
      ];
      joined = λ n place nl w. elim (cases_lt place (length table)) [
        | inl l ↦ subst (λ (x : ℕ × ℕ). SameClass (class_number ms) n x.1 ⊎ (Waits n ⊎ Waits x.1))
            (sym (old_entry place l))
            (joined_old n place nl l (match_old (shape_at nodes n) place l w))
        | inr past ↦
            let last : place ≡ length table = omega (arith, past, w.there, longer) in
            subst (λ (x : ℕ × ℕ). SameClass (class_number ms) n x.1 ⊎ (Waits n ⊎ Waits x.1))
            (sym (new_entry place last))
            (joined_new n nl (alike_back (class_number ms) _ _
            (subst (λ (x : ℕ × ℕ). AreAlike (class_number ms) (shape_at nodes x.1)
            (shape_at nodes n)) (new_entry place last) w.alike)))
      ];
    }

-- a match stays one where there are more entries
pub match_longer : (nodes : List Shape) (ms table : List (ℕ × ℕ)) (e : ℕ × ℕ) (s : Shape)
    (place : ℕ) →
    IsMatch nodes ms table s place → IsMatch nodes ms (table ++ (e ∷ [])) s place
match_longer nodes ms table e s place w =
    let at : entry_at (table ++ (e ∷ [])) place ≡ entry_at table place = get_or_append_left table (e
    ∷ []) (0, 0) place w.there in
    record {
      there = omega (arith, w.there, length_push table e);
      node = subst (λ (x : ℕ × ℕ). x.1 < length nodes) (sym at) w.node;
      key = subst (λ (x : ℕ × ℕ). x.0 ≡ key_of (class_number ms) s) (sym at) w.key;
      alike = subst (λ (x : ℕ × ℕ). AreAlike (class_number ms) (shape_at nodes x.1) s) (sym at)
          w.alike;
    }

-- a node that is entered is a match of its own
pub match_own : (nodes : List Shape) (ms table : List (ℕ × ℕ)) (n : ℕ) → n < length nodes →
    IsMatch nodes ms (table ++ ((key_of (class_number ms) (shape_at nodes n), n) ∷ []))
    (shape_at nodes n) (length table)
match_own nodes ms table n nl =
    let at = sym (get_or_at table (key_of (class_number ms) (shape_at nodes n), n) [] (0, 0)
    (length table) refl) in
    record {
      there = omega (arith, length_push table (key_of (class_number ms) (shape_at nodes n), n));
      node = subst (λ (x : ℕ × ℕ). x.1 < length nodes) at nl;
      key = subst (λ (x : ℕ × ℕ). x.0 ≡ key_of (class_number ms) (shape_at nodes n)) at refl;
      alike = subst (λ (x : ℕ × ℕ). AreAlike (class_number ms) (shape_at nodes x.1)
          (shape_at nodes n)) at (alike_same (class_number ms) (shape_at nodes n));
    }

pub whole_longer : (nodes : List Shape) (ms table : List (ℕ × ℕ)) (e : ℕ × ℕ)
    → IsWhole nodes ms table → IsWhole nodes ms (table ++ (e ∷ []))
whole_longer nodes ms table e whole n nl =
    let m = whole n nl in
    (m.0, match_longer nodes ms table e (shape_at nodes n) m.0 m.1)
