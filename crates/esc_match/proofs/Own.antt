-- The number of a class is one of its nodes.
use Rattle.std.proofs.Common.{◌≡◌, ℕ, ◌<◌, ◌==◌, Bool, true, false, if◌then◌else◌, List, [], ◌∷◌}
use Rattle.std.proofs.Common.{length, refl, ap, sym, subst, ◌∙◌, inl, inr}
use Rattle.std.specs.List.{All, fold}
use Rattle.std.proofs.lemmas.Bool.{cases_eq, eq-eqb, ne_eqb}
use Rattle.std.proofs.lemmas.List.Elements.{All-head, All-tail}
use Rattle.esc_union.specs.Merges.{class_number, moved, with_merge}
use Rattle.esc_egraph.specs.Graph.{Graph, IsGraph, number_of}

-- each number below the count is that of a class which it stands in
abbrev IsOwn : ℕ → (ℕ → ℕ) → Type 0
IsOwn count number = (k : ℕ) → k < count → (number k < count) × (number (number k) ≡ number k)

merged_own : (count : ℕ) (number : ℕ → ℕ) (m : ℕ × ℕ) → m.1 < count → IsOwn count number
    → IsOwn count (with_merge number m)
merged_own count number m there own k l =
    elim (cases_eq (number k) (number m.0)) [
      | inl same ↦
          let to : with_merge number m k ≡ number m.1 =
          ap (λ (b : Bool). if b then number m.1 else number k)
          (eq-eqb (number k) (number m.0) same) in (
            subst (λ n. n < count) (sym to) (own m.1 there).0,
            ap (with_merge number m) to ∙ (stays (number (number m.1)) (own m.1 there).1 ∙ sym to),
          )
      | inr apart ↦
          let to : with_merge number m k ≡ number k =
          ap (λ (b : Bool). if b then number m.1 else number k)
          (ne_eqb (number k) (number m.0) apart) in (
            subst (λ n. n < count) (sym to) (own k l).0,
            ap (with_merge number m) to
                ∙ (ap (λ n. moved (number m.0) (number m.1) n) (own k l).1 ∙ refl),
          )
    ]
  where
    stays : (n : ℕ) → n ≡ number m.1 → moved (number m.0) (number m.1) n ≡ number m.1
    stays n e = go (n == number m.0)
      where
        go : (b : Bool) → (if b then number m.1 else n) ≡ number m.1
        go true = refl
        go false = e

fold_own : (count : ℕ) (ms : List (ℕ × ℕ)) (number : ℕ → ℕ)
    → All (λ m. (m.0 < count) × (m.1 < count)) ms → IsOwn count number
    → IsOwn count (fold with_merge number ms)
fold_own count [] number there own = own
fold_own count (m ∷ ms) number there own =
    fold_own count ms (with_merge number m)
    (All-tail (λ m. (m.0 < count) × (m.1 < count)) m ms there)
    (merged_own count number m (All-head (λ m. (m.0 < count) × (m.1 < count)) m ms there).1 own)

pub number_own : (g : Graph) → IsGraph g → (k : ℕ) → k < length g.nodes
    → (number_of g k < length g.nodes) × (number_of g (number_of g k) ≡ number_of g k)
unfolding class_number
number_own g is = fold_own (length g.nodes) g.merges (λ k. k) is.merged.there (λ k l. (l, refl))
