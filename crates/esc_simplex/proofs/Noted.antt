-- One record behind those that were there.
use Rattle.std.proofs.Common.{◌≡◌, List, [], ◌∷◌, ◌++◌, ap₂, ◌∙◌}

pub noted_one : {X : Type 0} (before middle after : List X) (r s : X) → after ≡ middle ++ r ∷ []
    → middle ≡ before → r ≡ s → after ≡ before ++ s ∷ []
noted_one before middle after r s e same is = e ∙ ap₂ (λ xs x. xs ++ x ∷ []) same is
