-- What holds of the values of classes.
use Rattle.std.specs.Prelude.{ℕ, ℤ, List, ◌≡◌, ◌<◌, length, map}
use Rattle.esc_nodes.specs.Nodes.{Shape, shape_at, AreTerms}
use Rattle.esc_union.specs.Merges.{SameClass}
use Rattle.esc_egraph.specs.Congruence.{IsLeast, EqualWith, SameAmong}

-- nodes with one top, whose arguments have equal values, have equal values
abbrev pub HasCongruentValues : List Shape → (ℕ → ℤ) → Type 0
HasCongruentValues nodes value =
    (a b : ℕ) → a < length nodes → b < length nodes → (shape_at nodes a).top
    ≡ (shape_at nodes b).top →
    map value (shape_at nodes a).args ≡ map value (shape_at nodes b).args → value a ≡ value b

-- congruent values that are one in each class are so in each of the least classes with a new pair,
-- if it has one value
abbrev pub EqualsHaveOneValue : Type 0
EqualsHaveOneValue =
    (nodes : List Shape) → AreTerms nodes → (old new : ℕ → ℕ) (a b : ℕ)
    → IsLeast nodes (EqualWith old a b) new →
    (value : ℕ → ℤ) → HasCongruentValues nodes value →
    ((x y : ℕ) → x < length nodes → y < length nodes → SameClass old x y → value x ≡ value y)
    → value a ≡ value b →
    (x y : ℕ) → x < length nodes → y < length nodes → SameClass new x y → value x ≡ value y

-- and in each of the least classes with more nodes
abbrev pub MadeHaveOneValue : Type 0
MadeHaveOneValue =
    (nodes : List Shape) → AreTerms nodes → (old new : ℕ → ℕ) (count : ℕ)
    → IsLeast nodes (SameAmong count old) new →
    (value : ℕ → ℤ) → HasCongruentValues nodes value →
    ((x y : ℕ) → x < count → y < count → SameClass old x y → value x ≡ value y) →
    (x y : ℕ) → x < length nodes → y < length nodes → SameClass new x y → value x ≡ value y
