-- Marks none of which is below one before it.
use Rattle.std.proofs.Common.{◌≤◌, ℕ, List, [], ◌∷◌, ◌++◌, refl}
use Rattle.std.specs.Prelude.{Some}
use Rattle.std.specs.List.{All}
use Rattle.std.proofs.lemmas.List.Elements.{All-nil, All-cons, All-head, All-tail, All-push}
use Rattle.std.proofs.lemmas.List.Elements.{All-pop}
use Rattle.sharing_cases.specs.Undoable.{AreRising}

pub rising_push : (ms : List ℕ) (m : ℕ) → AreRising ms → All (λ k. k ≤ m) ms
    → AreRising (ms ++ m ∷ [])
rising_push [] m rising below = (All-nil (λ k. m ≤ k), tt)
rising_push (n ∷ ms) m rising below = (
  All-push (λ k. n ≤ k) ms m rising.0 (All-head (λ k. k ≤ m) n ms below),
  rising_push ms m rising.1 (All-tail (λ k. k ≤ m) n ms below),
)

pub rising_pop : (ms : List ℕ) (m : ℕ) → AreRising (ms ++ m ∷ [])
    → AreRising ms × All (λ k. k ≤ m) ms
rising_pop [] m rising = (tt, All-nil (λ k. k ≤ m))
rising_pop (n ∷ ms) m rising =
    let front = All-pop (λ k. n ≤ k) (ms ++ m ∷ []) ms (Some m) refl rising.0 in
    let rest = rising_pop ms m rising.1 in
    ((front.0, rest.0), All-cons (λ k. k ≤ m) n ms front.1 rest.1)
