-- Each merge leaves one class number fewer.
use Rattle.std.proofs.Common.{◌≡◌, ◌≢◌, ℕ, zero, suc, ◌+◌, ◌<◌, ◌≤◌, ◌==◌, List, [], ◌∷◌, ◌++◌, inl, inr, if◌then◌else◌, length, refl, ap, sym, arith}
use Rattle.std.proofs.lemmas.Bool.{cases_eq, eq-eqb, ne_eqb}
use Rattle.esc_union.specs.Merges.{SameClass, AreMerges, class_number}
use Rattle.esc_egraph.specs.Graph.{Graph, IsGraph, number_of}
use Rattle.esc_egraph.specs.PassesInside.{IsUnited}
use Rattle.esc_union.proofs.Ends.{by_ends}
use Rattle.esc_union.proofs.Members.{IsTold, are_told, was_own, AreMerges-front, AreMerges-last}
use Rattle.std.proofs.lemmas.List.{length_push}

-- whether a node is the number of its class, as a count
abbrev pub owns : List (ℕ × ℕ) → ℕ → ℕ
owns ms k = if class_number ms k == k then 1 else 0

-- how many class numbers there are before `n`
abbrev pub numbers_below : List (ℕ × ℕ) → ℕ → ℕ
numbers_below ms zero = 0
numbers_below ms (suc n) = numbers_below ms n + owns ms n

owns-yes : (ms : List (ℕ × ℕ)) (k : ℕ) → class_number ms k ≡ k → owns ms k ≡ 1
owns-yes ms k e = ap (λ t. if t then 1 else 0) (eq-eqb (class_number ms k) k e)

owns-no : (ms : List (ℕ × ℕ)) (k : ℕ) → class_number ms k ≢ k → owns ms k ≡ 0
owns-no ms k ne = ap (λ t. if t then 1 else 0) (ne_eqb (class_number ms k) k ne)

module _ (count : ℕ) (ms : List (ℕ × ℕ)) (m : ℕ × ℕ) (are : AreMerges count ms) (there : m.0
    < count) (there_too : m.1 < count)
    (apart : SameClass (class_number ms) m.0 m.1 → ⊥) where
  told : IsTold count ms
  told = are_told count ms are

  no_more : (k : ℕ) → owns (ms ++ (m ∷ [])) k ≤ owns ms k
  no_more k =
      elim (cases_eq (class_number (ms ++ (m ∷ [])) k) k) [
        | inl e ↦ omega (
          arith,
          owns-yes (ms ++ (m ∷ [])) k e,
          owns-yes ms k
              (was_own count ms m told there there_too apart k e).0,
        )
        | inr ne ↦ omega (arith, owns-no (ms ++ (m ∷ [])) k ne)
      ]

  one_fewer : owns (ms ++ (m ∷ [])) (class_number ms m.0) < owns ms (class_number ms m.0)
  one_fewer =
      omega (
        arith,
        owns-yes ms (class_number ms m.0) (told.still m.0 there),
        owns-no (ms ++ (m ∷ [])) (class_number ms m.0)
            (λ e. (was_own count ms m told there there_too apart (class_number ms m.0) e).1 refl),
      )

  below_le : (n : ℕ) → numbers_below (ms ++ (m ∷ [])) n ≤ numbers_below ms n
  below_le zero = omega arith
  below_le (suc n) = omega (arith, below_le n, no_more n)

  below_lt : (n : ℕ) → class_number ms m.0 < n → numbers_below (ms ++ (m ∷ [])) n
      < numbers_below ms n
  below_lt zero l = absurd (omega (arith, l))
  below_lt (suc n) l =
      elim (cases_eq (class_number ms m.0) n) [
        | inl e ↦ omega (
          arith,
          below_le n,
          ap (λ k. owns (ms ++ (m ∷ [])) k) (sym e),
          ap
              (λ k. owns ms k) (sym e),
          one_fewer,
        )
        | inr ne ↦ omega (arith, below_lt n (omega (arith, l, ne)), no_more n)
      ]

  pub fewer_numbers : numbers_below (ms ++ (m ∷ [])) count < numbers_below ms count
  fewer_numbers = below_lt count (told.low m.0 there)

-- where two classes are united there is one number fewer
pub united_fewer : (now exit : Graph) (a b : ℕ) → IsGraph now → a < length now.nodes → b
    < length now.nodes → (SameClass (number_of now) a b → ⊥) →
    IsUnited now exit a b → numbers_below exit.merges (length exit.nodes)
    < numbers_below now.merges (length now.nodes)
united_fewer now exit a b is al bl apart (inl e) =
    rw e (fewer_numbers (length now.nodes) now.merges (a, b) is.merged al bl apart)
united_fewer now exit a b is al bl apart (inr e) =
    rw e (fewer_numbers (length now.nodes) now.merges (b, a) is.merged bl al
    (λ same. apart (sym same)))

none_below : (n : ℕ) → numbers_below [] n ≤ n
none_below zero = omega arith
none_below (suc n) =
    elim (cases_eq (class_number [] n) n) [
      | inl e ↦ omega (arith, none_below n, owns-yes [] n e)
      | inr ne ↦ omega (arith, none_below n, owns-no [] n ne)
    ]

-- there are no more merges than nodes
pub fewer_merges : (count : ℕ) (ms : List (ℕ × ℕ)) → AreMerges count ms → numbers_below ms count
    + length ms ≤ count
fewer_merges count =
    by_ends (λ ms. AreMerges count ms → numbers_below ms count + length ms ≤ count)
    (λ are. omega (arith, none_below count))
    (λ ms m before are.
    let front = AreMerges-front count ms m are in
    let last = AreMerges-last count ms m are in
    omega (
      arith,
      before front,
      length_push ms m,
      fewer_numbers count ms m front last.0 last.1
          last.2,
    ))
