-- Places in lists that are joined.
use Rattle.std.proofs.Common.{◌≡◌, ℕ, zero, suc, ◌+◌, List, [], ◌∷◌, ◌++◌, ◌<◌, get_or, take}
use Rattle.std.proofs.Common.{length, Some, refl, subst, arith}
use Rattle.std.specs.List.{flat_map}
use Rattle.std.proofs.lemmas.List.{length-append}
use Rattle.std.specs.Prelude.{slice_get}

pub found_first : {X : Type 0} (xs ys : List X) (k : ℕ) (x : X) → slice_get xs k ≡ Some x
    → slice_get (xs ++ ys) k ≡ Some x
found_first [] ys k x e = cc
found_first (y ∷ xs) ys zero x e = e
found_first (y ∷ xs) ys (suc k) x e = found_first xs ys k x e

after : {X : Type 0} (xs ys : List X) (j : ℕ) (y : X) → slice_get ys j ≡ Some y
    → slice_get (xs ++ ys) (length xs + j) ≡ Some y
after [] ys j y e = let here : j ≡ 0 + j = omega arith in
    subst (λ n. slice_get ys n ≡ Some y) here e
after (x ∷ xs) ys j y e =
    let here : suc (length xs + j) ≡ suc (length xs) + j = omega arith in
    subst (λ n. slice_get (x ∷ xs ++ ys) n ≡ Some y) here (after xs ys j y e)

pub found_then : {X : Type 0} (xs ys : List X) (j k : ℕ) (y : X) → length xs + j ≡ k
    → slice_get ys j ≡ Some y → slice_get (xs ++ ys) k ≡ Some y
found_then xs ys j k y is e = subst (λ n. slice_get (xs ++ ys) n ≡ Some y) is (after xs ys j y e)

pub passed_both : {X : Type 0} (xs ys : List X) (k j m : ℕ) → length xs + j ≡ k → length ys + m ≡ j
    → length (xs ++ ys) + m ≡ k
passed_both xs ys k j m e f = omega (arith, length-append xs ys)

-- in a list of lists, in the one at a place
pub found_at : {X A : Type 0} (f : X → List A) (xs : List X) (i : ℕ) (x : X) (j k : ℕ) (y : A)
    → i < length xs → x ≡ get_or xs i x
    → length (flat_map f (take i xs)) + j ≡ k → slice_get (f x) j ≡ Some y
    → slice_get (flat_map f xs) k ≡ Some y
found_at f [] i x j k y within is past at = absurd (omega (arith, within))
found_at f (z ∷ xs) zero x j k y within is past at =
    let first : j ≡ k = omega (arith, past) in
    found_first (f z) (flat_map f xs) k y
    (subst (λ n. slice_get (f z) n ≡ Some y) first (subst (λ w. slice_get (f w) j ≡ Some y) is at))
found_at f (z ∷ xs) (suc i) x j k y within is past at =
    found_then (f z) (flat_map f xs) (length (flat_map f (take i xs)) + j) k y
    (omega (arith, length-append (f z) (flat_map f (take i xs)), past))
    (found_at f xs i x j (length (flat_map f (take i xs)) + j) y (omega (arith, within)) is refl at)

pub ruleset joined = (found_first, found_then, passed_both)
