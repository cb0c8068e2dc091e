-- What holds of classes that are made by merging.
use Rattle.std.specs.Prelude.{ℕ, List, [], ◌++◌, ◌≡◌, ◌<◌, All}
use Rattle.esc_union.specs.Merges.{SameClass, class_number}

-- before any merge each node is its own class
abbrev pub NodesStandAlone : Type 0
NodesStandAlone = (a b : ℕ) → SameClass (class_number []) a b → a ≡ b

-- the two nodes of each merge stand in one class
abbrev pub MergesAreMet : Type 0
MergesAreMet = (merges : List (ℕ × ℕ)) → All (λ m. SameClass (class_number merges) m.0 m.1) merges

-- nodes of one class are equal by each labelling by which the two nodes of each merge are
abbrev pub ClassesAreFinest : Type 0
ClassesAreFinest =
    (merges : List (ℕ × ℕ)) (label : ℕ → ℕ) → All (λ m. label m.0 ≡ label m.1) merges →
    (a b : ℕ) → SameClass (class_number merges) a b → label a ≡ label b

-- nodes of one class stay so where more is merged
abbrev pub ClassesGrow : Type 0
ClassesGrow =
    (merges more : List (ℕ × ℕ)) (a b : ℕ) → SameClass (class_number merges) a b
    → SameClass (class_number (merges ++ more)) a b

-- a node that no merge has stands alone
abbrev pub NewNodesStandAlone : Type 0
NewNodesStandAlone =
    (merges : List (ℕ × ℕ)) (count : ℕ) → All (λ m. (m.0 < count) × (m.1 < count)) merges →
    (a : ℕ) → a < count → SameClass (class_number merges) a count → ⊥
