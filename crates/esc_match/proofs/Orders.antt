-- Lists in order: each element stands in a relation to those behind it.
use Rattle.std.proofs.Common.{◌≡◌, ℕ, zero, suc, ◌<◌, Bool, true, false, cond, inl, inr}
use Rattle.std.proofs.Common.{List, [], ◌∷◌, ◌++◌, get_or, map, refl, ap, sym, subst, ◌∙◌, arith}
use Rattle.std.specs.List.{AllPairs, Contains, filter, flat_map}
use Rattle.std.proofs.lemmas.List.{append_assoc}
use Rattle.std.proofs.lemmas.List.Elements.{Contains-append_cases}
use Rattle.std.proofs.lemmas.List.Elements.{Contains-append_right, Contains-get_or}
use Rattle.esc_term.proofs.Members.{Contains-cases, Contains-flat_map, Contains-here}
use Rattle.esc_term.proofs.Members.{Contains-later, Contains-none}
use Rattle.esc_cover.proofs.TestLemmas.{of_kept}
use Rattle.esc_match.specs.Order.{IsBefore}

abbrev pub InOrder : {A : Type 0} → (A → A → Type 0) → List A → Type 0
InOrder {A} R [] = Unit {0}
InOrder {A} R (x ∷ xs) = ((y : A) → Contains xs y → R x y) × InOrder R xs

module _ {A : Type 0} (R : A → A → Type 0) where
  pub in_order-append : (xs ys : List A) → InOrder R xs → InOrder R ys
      → ((x y : A) → Contains xs x → Contains ys y → R x y) → InOrder R (xs ++ ys)
  in_order-append [] ys first second across = second
  in_order-append (x ∷ xs) ys first second across = (
    (λ y h. elim (Contains-append_cases xs ys y h) [
      | inl a ↦ first.0 y a
      | inr b ↦ across x y (Contains-here x xs) b
    ]),
    in_order-append xs ys first.1 second (λ a b ha hb. across a b (Contains-later x xs a ha) hb),
  )

  pub in_order-across : (xs ys : List A) → InOrder R (xs ++ ys) → (x y : A) → Contains xs x
      → Contains ys y → R x y
  in_order-across [] ys order x y hx hy = absurd (Contains-none x hx)
  in_order-across (z ∷ xs) ys order x y hx hy =
      elim (Contains-cases z xs x hx) [
        | inl e ↦ subst (λ u. R u y) e (order.0 y (Contains-append_right xs ys y hy))
        | inr later ↦ in_order-across xs ys order.1 x y later hy
      ]

  pub in_order-filter : (p : A → Bool) (xs : List A) → InOrder R xs → InOrder R (filter p xs)
  in_order-filter p [] order = order
  in_order-filter p (x ∷ xs) order = go (p x) (in_order-filter p xs order.1)
    where
      go : (b : Bool) → InOrder R (filter p xs) → InOrder R (cond b (x ∷ filter p xs) (filter p xs))
      go true rest = (λ y h. order.0 y (of_kept p xs y h).0, rest)
      go false rest = rest

  pub in_order-pairs : (xs : List A) → InOrder R xs → AllPairs R xs
  in_order-pairs [] order i j d before l = absurd (omega (arith, l))
  in_order-pairs (x ∷ xs) order i zero d before l = absurd (omega (arith, before))
  in_order-pairs (x ∷ xs) order zero (suc j) d before l =
      order.0 (get_or xs j d) (Contains-get_or xs j d (omega (arith, l)))
  in_order-pairs (x ∷ xs) order (suc i) (suc j) d before l =
      in_order-pairs xs order.1 i j d (omega (arith, before)) (omega (arith, l))

pub in_order-weaker : {A : Type 0} (R S : A → A → Type 0) (xs : List A)
    → ((x y : A) → Contains xs x → Contains xs y → R x y → S x y) → InOrder R xs → InOrder S xs
in_order-weaker R S [] weaker order = tt
in_order-weaker R S (x ∷ xs) weaker order = (
  λ y h. weaker x y (Contains-here x xs) (Contains-later x xs y h) (order.0 y h),
  in_order-weaker R S xs
      (λ y z hy hz. weaker y z (Contains-later x xs y hy) (Contains-later x xs z hz)) order.1,
)

pub Contains-map : {A B : Type 0} (f : A → B) (xs : List A) (x : A) → Contains xs x
    → Contains (map f xs) (f x)
Contains-map f [] x h = absurd (Contains-none x h)
Contains-map f (y ∷ xs) x h =
    elim (Contains-cases y xs x h) [
      | inl e ↦ subst (λ z. Contains (f y ∷ map f xs) (f z)) e (Contains-here (f y) (map f xs))
      | inr later ↦ Contains-later (f y) (map f xs) (f x) (Contains-map f xs x later)
    ]

pub Contains-of_map : {A B : Type 0} (f : A → B) (xs : List A) (y : B) → Contains (map f xs) y
    → (x : A) × Contains xs x × (f x ≡ y)
Contains-of_map f [] y h = absurd (Contains-none y h)
Contains-of_map f (x ∷ xs) y h =
    elim (Contains-cases (f x) (map f xs) y h) [
      | inl e ↦ (x, Contains-here x xs, e)
      | inr later ↦
          let found = Contains-of_map f xs y later in
          (found.0, Contains-later x xs found.0 found.1, found.2)
    ]

pub in_order-map : {A B : Type 0} (R : B → B → Type 0) (f : A → B) (xs : List A)
    → InOrder (λ x y. R (f x) (f y)) xs → InOrder R (map f xs)
in_order-map R f [] order = tt
in_order-map R f (x ∷ xs) order = (
  λ y h.
      let found = Contains-of_map f xs y h in
      subst (R (f x)) found.2 (order.0 found.0 found.1),
  in_order-map R f xs order.1,
)

pub in_order-flat_map : {A B : Type 0} (S : A → A → Type 0) (R : B → B → Type 0) (f : A → List B)
    (xs : List A) → InOrder S xs → ((x : A) → Contains xs x → InOrder R (f x))
    → ((x y : A) (a b : B) → Contains xs x → Contains xs y → S x y → Contains (f x) a
    → Contains (f y) b → R a b) → InOrder R (flat_map f xs)
in_order-flat_map S R f [] order inside across = tt
in_order-flat_map S R f (x ∷ xs) order inside across =
    in_order-append R (f x) (flat_map f xs) (inside x (Contains-here x xs))
    (in_order-flat_map S R f xs order.1 (λ y h. inside y (Contains-later x xs y h))
    (λ y z a b hy hz. across y z a b (Contains-later x xs y hy) (Contains-later x xs z hz)))
    (λ a b ha hb.
    let y = Contains-flat_map f xs b hb in
    across x y.0 a b (Contains-here x xs) (Contains-later x xs y.0 y.1) (order.0 y.0 y.1) ha
    y.2)

-- ---- lists of numbers

pub before_further : (ps qs xs ys : List ℕ) → IsBefore ps qs → IsBefore (ps ++ xs) (qs ++ ys)
before_further ps qs xs ys is = record {
  front = is.front;
  lesser = is.lesser;
  greater = is.greater;
  ps_rest = is.ps_rest ++ xs;
  qs_rest = is.qs_rest ++ ys;
  first = ap (λ zs. zs ++ xs) is.first ∙ append_assoc is.front (is.lesser ∷ is.ps_rest) xs;
  second = ap (λ zs. zs ++ ys) is.second ∙ append_assoc is.front (is.greater ∷ is.qs_rest) ys;
  less = is.less;
}

-- lists of rising numbers with the same members are the same
pub same_rising : (xs ys : List ℕ) → InOrder (λ m n. m < n) xs → InOrder (λ m n. m < n) ys
    → ((n : ℕ) → Contains xs n → Contains ys n) → ((n : ℕ) → Contains ys n → Contains xs n)
    → xs ≡ ys
same_rising [] [] first second to from = refl
same_rising [] (y ∷ ys) first second to from =
    absurd (Contains-none y (from y (Contains-here y ys)))
same_rising (x ∷ xs) [] first second to from =
    absurd (Contains-none x (to x (Contains-here x xs)))
same_rising (x ∷ xs) (y ∷ ys) first second to from =
    ap (λ z. z ∷ xs) heads ∙ ap (λ zs. y ∷ zs) (same_rising xs ys first.1 second.1
    (λ n h. elim (Contains-cases y ys n (to n (Contains-later x xs n h))) [
      | inl e ↦ absurd (omega (arith, first.0 n h, heads, e))
      | inr later ↦ later
    ])
    (λ n h. elim (Contains-cases x xs n (from n (Contains-later y ys n h))) [
      | inl e ↦ absurd (omega (arith, second.0 n h, heads, e))
      | inr later ↦ later
    ]))
  where
    heads : x ≡ y
    heads = elim (Contains-cases y ys x (to x (Contains-here x xs))) [
      | inl e ↦ sym e
      | inr after ↦ elim (Contains-cases x xs y (from y (Contains-here y ys))) [
        | inl e ↦ e
        | inr later ↦ absurd (omega (arith, second.0 x after, first.0 y later))
      ]
    ]
