-- Lists of numbers with one more at their end.
use Rattle.std.proofs.Common.{◌≡◌, ◌⊎◌, inl, inr, ℕ, ◌-◌, ◌<◌, ◌≤◌, List, Option, Some, None, [], ◌∷◌, ◌++◌, length, take, get_or, sym, ap, ◌∙◌, arith}
use Rattle.std.specs.List.{Contains}
use Rattle.std.specs.Prelude.{MatchOption}
use Rattle.std.proofs.lemmas.Bool.{cases_lt}
use Rattle.std.proofs.lemmas.List.{get_or_append_left, get_or_push, get_or_default, length_push}
use Rattle.std.proofs.Math.Seq.{take-append_seam}
use Rattle.esc_simplex.specs.SimplexUndo.{newest}
use Rattle.esc_simplex.specs.View.{AreOnce}

pub shorter : {X : Type 0} (xs : List X) (x : X) → length (xs ++ x ∷ []) - 1 ≡ length xs
shorter xs x = omega (arith, length_push xs x)

pub take-push : {X : Type 0} (xs : List X) (x : X)
    → take (length (xs ++ x ∷ []) - 1) (xs ++ x ∷ []) ≡ xs
take-push xs x = ap (λ n. take n (xs ++ x ∷ [])) (shorter xs x) ∙ take-append_seam xs (x ∷ [])

pub newest-push : (us : List ℕ) (u : ℕ) → newest (us ++ u ∷ []) ≡ u
newest-push us u = get_or_push us u 0 (length (us ++ u ∷ []) - 1) (sym (shorter us u))

pub once_push : (us : List ℕ) (u : ℕ) → AreOnce us → (Contains us u → ⊥) → AreOnce (us ++ u ∷ [])
once_push us u once none i j a b e = go (cases_lt i (length us)) (cases_lt j (length us))
  where
    old : (k : ℕ) → k < length us → get_or (us ++ u ∷ []) k 0 ≡ get_or us k 0
    old k h = get_or_append_left us (u ∷ []) 0 k h

    last : (k : ℕ) → length us ≤ k → k < length (us ++ u ∷ []) → k ≡ length us
    last k h l = omega (arith, h, l, length_push us u)

    new : (k : ℕ) → length us ≤ k → k < length (us ++ u ∷ []) → get_or (us ++ u ∷ []) k 0 ≡ u
    new k h l = get_or_push us u 0 k (sym (last k h l))

    twice : (k : ℕ) → k < length us → get_or us k 0 ≡ u → ⊥
    twice k h same = none (k, h, get_or_default us k u 0 h ∙ same)

    go : (i < length us) ⊎ (length us ≤ i) → (j < length us) ⊎ (length us ≤ j) → i ≡ j
    go (inl h) (inl k) = once i j h k (sym (old i h) ∙ e ∙ old j k)
    go (inl h) (inr k) = absurd (twice i h (sym (old i h) ∙ e ∙ new j k b))
    go (inr h) (inl k) = absurd (twice j k (sym (old j k) ∙ sym e ∙ new i h a))
    go (inr h) (inr k) = last i h a ∙ sym (last j k b)

-- what is left where the entry that was put last is taken again
pub popped : {X : Type 0} (xs ys : List X) (x : X) (r : Option X)
    → MatchOption r ((xs ++ x ∷ [] ≡ []) × (ys ≡ [])) (λ last. xs ++ x ∷ [] ≡ ys ++ last ∷ [])
    → ys ≡ xs
popped xs ys x None h = absurd (omega (arith, length_push xs x, ap length h.0))
popped xs ys x (Some y) h =
    sym (take-push ys y) ∙ ap (λ zs. take (length zs - 1) zs) (sym h) ∙ take-push xs x
