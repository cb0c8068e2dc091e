-- How many elements pass a test, and where they stand.
use Rattle.std.proofs.Common.{◌≡◌, ◌⊎◌, inl, inr, ℕ, zero, suc, ◌+◌, ◌<◌, ◌≤◌, Bool, true, false, not, cond, true≢false, List, [], ◌∷◌, ◌++◌, length, set, get_or, refl, sym, ap, ◌∙◌, arith}
use Rattle.std.specs.List.{count_by, position_or_len, remove}
use Rattle.std.proofs.lemmas.List.{get_or_default, set_past}
use Rattle.std.proofs.lemmas.List.Sorted.{IsPermutation-remove, sum_by_popped}
use Rattle.std.proofs.lemmas.Bool.{cases_lt, cond-true, cond-false, false_from_ne_true, not-false}
use Rattle.std.proofs.lemmas.List.Sums.{sum_by-cons, sum_by-set, sum_by_push, position_or_len_is, fails_before_first, prefix_len_stops}

-- 1 where the test holds
abbrev pub mark : Bool → ℕ
mark b = cond b 1 0

pub count_by-set : {X : Type 0} (p : X → Bool) (xs : List X) (i : ℕ) (y d : X) → i < length xs
    → count_by p (set xs i y) + mark (p (get_or xs i d)) ≡ count_by p xs + mark (p y)
count_by-set p xs i y d h = sum_by-set (λ x. cond (p x) 1 0) xs i y d h

pub count_by-cons : {X : Type 0} (p : X → Bool) (x : X) (xs : List X) → count_by p (x ∷ xs)
    ≡ mark (p x) + count_by p xs
count_by-cons p x xs = sum_by-cons (λ y. cond (p y) 1 0) x xs

pub count_at : {X : Type 0} (p : X → Bool) (xs : List X) (i : ℕ) (d : X) → i < length xs
    → p (get_or xs i d) ≡ true → 0 < count_by p xs
count_at p [] i d h e = absurd (omega arith)
count_at p (x ∷ xs) zero d h e = let k : mark (p x) ≡ 1 = cond-true (p x) 1 0 e
    in omega (arith, count_by-cons p x xs)
count_at p (x ∷ xs) (suc i) d h e = omega (
  arith,
  count_by-cons p x xs,
  count_at p xs i d
      (omega arith) e,
)

-- two places that pass count twice
pub count_at_two : {X : Type 0} (p : X → Bool) (xs : List X) (i j : ℕ) (d : X) → i < j → j
    < length xs → p (get_or xs i d) ≡ true → p (get_or xs j d) ≡ true → 1 < count_by p xs
count_at_two p [] i j d h l e f = absurd (omega arith)
count_at_two p (x ∷ xs) i zero d h l e f = absurd (omega arith)
count_at_two p (x ∷ xs) zero (suc j) d h l e f =
    let k : mark (p x) ≡ 1 = cond-true (p x) 1 0 e in
    omega (arith, count_by-cons p x xs, count_at p xs j d (omega arith) f)
count_at_two p (x ∷ xs) (suc i) (suc j) d h l e f = omega
    (arith, count_by-cons p x xs, count_at_two p xs i j d (omega arith) (omega arith) e f)

-- where one passes at most, the first place that passes is that place
pub only_place : {X : Type 0} (p : X → Bool) (xs : List X) (i : ℕ) (d : X) → i < length xs
    → p (get_or xs i d) ≡ true → count_by p xs ≤ 1 → position_or_len p xs ≡ i
only_place p xs i d h e few =
    position_or_len_is p xs i d (omega arith)
    (λ k below. false_from_ne_true (p (get_or xs k d))
    (λ also. absurd (omega (arith, count_at_two p xs k i d below h also e))))
    (λ _. e)

-- where one passes there is a place
pub place_counts : {X : Type 0} (p : X → Bool) (xs : List X) (d : X) → 0 < count_by p xs → (i : ℕ)
    × (i < length xs) × (p (get_or xs i d) ≡ true)
place_counts p [] d h = absurd (omega arith)
place_counts p (x ∷ xs) d h = go (p x) refl (place_counts p xs d)
  where
    go : (b : Bool) → p x ≡ b → (0 < count_by p xs → (i : ℕ) × (i < length xs)
        × (p (get_or xs i d) ≡ true)) → (i : ℕ) × (i < length (x ∷ xs))
        × (p (get_or (x ∷ xs) i d) ≡ true)
    go true e rest = (zero, omega arith, e)
    go false e rest =
        let k : mark (p x) ≡ 0 = cond-false (p x) 1 0 e in
        let at = rest (omega (arith, count_by-cons p x xs)) in
        (suc at.0, omega (arith, at.1), at.2)

-- the first place, where there is one, passes
pub passes_at_first : {X : Type 0} (p : X → Bool) (xs : List X) (d : X) → position_or_len p xs
    < length xs → p (get_or xs (position_or_len p xs) d) ≡ true
passes_at_first p xs d h = not-false _ (prefix_len_stops (λ x. not (p x)) xs d h)

-- where none passes, the first place is past the end
pub no_place : {X : Type 0} (p : X → Bool) (xs : List X) (d : X) → count_by p xs ≡ 0 → length xs
    ≤ position_or_len p xs
no_place p xs d none = go (cases_lt (position_or_len p xs) (length xs))
  where
    go : (position_or_len p xs < length xs) ⊎ (length xs ≤ position_or_len p xs) → length xs
        ≤ position_or_len p xs
    go (inl h) = absurd (omega (
      arith,
      count_at p xs (position_or_len p xs) d h
          (passes_at_first p xs d h),
    ))
    go (inr h) = h

-- and where one does, it is within
pub has_place : {X : Type 0} (p : X → Bool) (xs : List X) (d : X) → 0 < count_by p xs
    → position_or_len p xs < length xs
has_place p xs d some =
    let at = place_counts p xs d some in
    go at.0 at.1 at.2
  where
    go : (i : ℕ) → i < length xs → p (get_or xs i d) ≡ true → position_or_len p xs < length xs
    go i h e = below (cases_lt i (position_or_len p xs))
      where
        below : (i < position_or_len p xs) ⊎ (position_or_len p xs ≤ i) → position_or_len p xs
            < length xs
        below (inl k) = absurd (true≢false (sym e ∙ fails_before_first p xs i d k))
        below (inr k) = omega arith

pub mark_few : (b : Bool) → mark b ≤ 1
mark_few true = omega arith
mark_few false = omega arith

pub count_by-push : {X : Type 0} (p : X → Bool) (xs : List X) (y : X) → count_by p (xs ++ y ∷ [])
    ≡ count_by p xs + mark (p y)
count_by-push p xs y = sum_by_push (λ x. cond (p x) 1 0) xs y

pub count_by-remove : {X : Type 0} (p : X → Bool) (xs : List X) (i : ℕ) (d : X) → i < length xs
    → count_by p (remove xs i) + mark (p (get_or xs i d)) ≡ count_by p xs
count_by-remove p xs i d inside = sum_by_popped (λ x. cond (p x) 1 0) (get_or xs i d) xs
    (remove xs i) (IsPermutation-remove xs i (get_or xs i d) inside
    (get_or_default xs i d (get_or xs i d) inside))

-- a place that passes as before changes no count
pub count_by-set_same : {X : Type 0} (p : X → Bool) (xs : List X) (i : ℕ) (y d : X)
    → (i < length xs → p y ≡ p (get_or xs i d)) → count_by p (set xs i y) ≡ count_by p xs
count_by-set_same p xs i y d same = go (cases_lt i (length xs))
  where
    go : (i < length xs) ⊎ (length xs ≤ i) → count_by p (set xs i y) ≡ count_by p xs
    go (inl h) = let e = ap mark (same h) in omega (arith, count_by-set p xs i y d h)
    go (inr h) = ap (count_by p) (set_past xs i y h)
