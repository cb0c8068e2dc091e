-- Numbers that stand in a list.
use Rattle.std.proofs.Common.{◌≡◌, ℕ, zero, suc, ◌+◌, ◌<◌, true, false, inl, inr, List, refl, subst}
use Rattle.std.proofs.Common.{arith}
use Rattle.std.proofs.lemmas.Bool.{and_from}
use Rattle.std.proofs.lemmas.Bool.Decides.{eqb_tells}
use Rattle.esc_cover.proofs.TestLemmas.{and_fails_left, and_fails_right}
use Rattle.esc_trigger.specs.Variables.{has_number, has_all_below}

less_below : (k n : ℕ) → k < suc n → (k ≡ n → ⊥) → k < n
less_below k n h apart = omega (arith, h, apart)

-- a number that is missing shows that not all below stand there
pub missing_below : (count k : ℕ) (ns : List ℕ) → k < count → has_number ns k ≡ false
    → has_all_below count ns ≡ false
unfolding has_all_below
missing_below zero k ns h e = absurd (omega (arith, h))
missing_below (suc n) k ns h e =
    elim (eqb_tells k n) [
      | inl same ↦ and_fails_left (has_number ns n) (has_all_below n ns)
          (subst (λ m. has_number ns m ≡ false) same.1 e)
      | inr apart ↦ and_fails_right (has_number ns n) (has_all_below n ns)
          (missing_below n k ns (less_below k n h apart.1) e)
    ]

pub none_below : (ns : List ℕ) → has_all_below 0 ns ≡ true
unfolding has_all_below
none_below ns = refl

next_below : (k : ℕ) (ns : List ℕ) → has_all_below k ns ≡ true → has_number ns k ≡ true
    → has_all_below (suc k) ns ≡ true
unfolding has_all_below
next_below k ns h e = and_from (has_number ns k) (has_all_below k ns) e h

pub all_below_more : (k : ℕ) (ns : List ℕ) → has_all_below k ns ≡ true → has_number ns k ≡ true
    → has_all_below (k + 1) ns ≡ true
all_below_more k ns h e = subst (λ n. has_all_below n ns ≡ true) (omega arith) (next_below k ns h e)

pub ruleset below = (missing_below, none_below, all_below_more)
