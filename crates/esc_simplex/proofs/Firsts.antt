-- The terms of a list, each once.
use Rattle.std.proofs.Common.{◌≡◌, ◌⊎◌, inl, inr, Bool, true, false, true≢false, cond, List, [], ◌∷◌, ◌++◌, refl, sym, ◌∙◌, subst}
use Rattle.std.specs.List.{Contains, fold, list_any}
use Rattle.esc_term.specs.declared.term.Term.{Term}
use Rattle.std.proofs.lemmas.Map.Views.{list_any-from_Contains}
use Rattle.std.proofs.lemmas.List.Elements.{Contains-push_cases}
use Rattle.esc_term.specs.Equal.{same_term, same_term-equivalence}
use Rattle.esc_term.specs.Term.{firsts, with_once}
use Rattle.esc_term.proofs.Members.{Contains-none, Contains-here, Contains-later}

-- no term stands twice in the list
abbrev pub IsOnce : List Term → Type 0
IsOnce [] = Unit {0}
IsOnce (t ∷ ts) = (Contains ts t → ⊥) × IsOnce ts

once_push : (xs : List Term) (y : Term) → IsOnce xs → (Contains xs y → ⊥) → IsOnce (xs ++ y ∷ [])
once_push [] y once none = (λ h. Contains-none y h, tt)
once_push (x ∷ xs) y once none = (
  λ h. go (Contains-push_cases xs y x h),
  once_push xs y once.1
      (λ h. none (Contains-later x xs y h)),
)
  where
    go : Contains xs x ⊎ (y ≡ x) → ⊥
    go (inl k) = once.0 k
    go (inr e) = none (subst (λ z. Contains (x ∷ xs) z) (sym e) (Contains-here x xs))

once_with : (seen : List Term) (t : Term) → IsOnce seen → IsOnce (with_once seen t)
unfolding with_once
once_with seen t once = go (list_any (same_term t) seen) refl
  where
    go : (b : Bool) → list_any (same_term t) seen ≡ b → IsOnce (cond b seen (seen ++ t ∷ []))
    go true e = once
    go false e = once_push seen t once (λ h. absurd
        (true≢false (sym (list_any-from_Contains same_term-equivalence t seen h) ∙ e)))

once_fold : (ts seen : List Term) → IsOnce seen → IsOnce (fold with_once seen ts)
once_fold [] seen once = once
once_fold (t ∷ ts) seen once = once_fold ts (with_once seen t) (once_with seen t once)

pub firsts_once : (ts : List Term) → IsOnce (firsts ts)
firsts_once ts = once_fold ts [] tt
