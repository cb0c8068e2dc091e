-- A class that has none of a group's nodes stands at no place of it.
use Rattle.std.proofs.Common.{ℕ, ◌<◌, List, All, Option, Some, None, IfNone, length, slice_index}
use Rattle.std.specs.List.{Contains}
use Rattle.esc_union.specs.Merges.{IsClassOf}
use Rattle.esc_distinct.specs.PassesInside.{HoldsAt}

pub none_by_class : (count : ℕ) (number : ℕ → ℕ) (b : ℕ) (class group : List ℕ) →
    IsClassOf count number b class → All (λ n. n < count) group → (o : Option ℕ) →
    IfNone o ((i : ℕ) → i < length group → Contains class (slice_index group i) → ⊥) →
    IfNone o ((i : ℕ) → HoldsAt number group b i → ⊥)
none_by_class count number b class group is members None absent = λ i holds.
    absent i holds.0 ((is.exact (slice_index group i)).1 (members i 0 holds.0, holds.1))
none_by_class count number b class group is members (Some p) absent = tt
