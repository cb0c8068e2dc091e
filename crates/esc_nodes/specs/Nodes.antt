-- What contracts see of nodes.
use Rattle.std.specs.Prelude.{ℕ, pos, List, [], ◌<◌, ◌≡◌, length, All, slice_index_or}
use Rattle.esc_nodes.specs.declared.top.Top.{Top}
use Rattle.esc_nodes.specs.declared.top.Top.TheVariants.{Num, App}

-- what a node is made of: the top of its term, and the nodes of the arguments
pub record Shape : Type 0 where
  pub top : Top
  pub args : List ℕ

-- the shape with this top and these arguments, of which a numeral has none
abbrev pub shape : Top → List ℕ → Shape
shape (Num n) args = record { top = Num n; args = [] }
shape (App head) args = record { top = App head; args = args }

-- the node of a number, and the numeral 0 where there is none
abbrev pub shape_at : List Shape → ℕ → Shape
shape_at nodes k = slice_index_or nodes k (record { top = Num (pos 0); args = [] })

-- each argument is an older node, a numeral has no arguments, and no two nodes have one shape
pub record AreTerms (nodes : List Shape) : Type 0 where
  pub older : (k : ℕ) → k < length nodes → All (λ a. a < k) (shape_at nodes k).args
  pub bare : (k : ℕ) → k < length nodes →
      shape (shape_at nodes k).top (shape_at nodes k).args ≡ shape_at nodes k
  pub once : (j k : ℕ) → j < length nodes → k < length nodes →
      shape_at nodes j ≡ shape_at nodes k → j ≡ k
