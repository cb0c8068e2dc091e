-- Texts with single blanks between them.
use Rattle.std.proofs.Common.{◌≡◌, ℕ, List, [], ◌∷◌, ◌++◌, length, refl, ap, ◌∙◌, arith}
use Rattle.esc_print.specs.Terms.{spaced}
use Rattle.esc_report.specs.Listed.{joined}

module _ {X : Type 0} (text : X → List ℕ) where
  pub joined-empty : (xs : List X) → length xs ≡ 0 → joined text xs ≡ []
  unfolding joined
  joined-empty [] none = refl
  joined-empty (x ∷ xs) none = absurd (omega (arith, none))

  first : (x : X) (rest : List X) → joined text (x ∷ rest) ≡ text x ++ spaced text rest
  unfolding joined
  first x rest = refl

  pub joined-first : (xs : List X) (x : X) (rest : List X) → xs ≡ x ∷ rest
      → joined text xs ≡ text x ++ spaced text rest
  joined-first xs x rest is = ap (joined text) is ∙ first x rest
