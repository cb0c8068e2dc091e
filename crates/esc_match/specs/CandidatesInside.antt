-- The nodes at which a term may stand.
use Rattle.std.specs.Prelude.{◌≡◌, ℕ, zero, suc, ◌==◌, Bool, List, [], ◌∷◌, ◌++◌, length}
use Rattle.std.specs.Bool.{Decides}
use Rattle.std.specs.List.{filter}
use Rattle.esc_nodes.specs.contracts.top.Top as top
use Rattle.esc_nodes.specs.declared.top.Top.{Top}
use Rattle.esc_nodes.specs.Nodes.{shape_at}
use Rattle.esc_egraph.specs.Graph.{Graph, number_of}
use Rattle.esc_term.specs.Same.{same, same-is}

pub same_top : Top → Top → Bool
same_top = same top.the_row.coded

pub same_top-is : (s t : Top) → Decides (same_top s t) (s ≡ t)
unfolding same_top
same_top-is = same-is top.the_row.coded

-- the numbers below this one, in order
unfoldable pub numbers_below : ℕ → List ℕ
numbers_below zero = []
numbers_below (suc n) = numbers_below n ++ n ∷ []

-- the nodes of a node's class, in the order of making
abbrev pub class_list : Graph → ℕ → List ℕ
class_list g n = filter (λ m. number_of g m == number_of g n) (numbers_below (length g.nodes))

-- the node has this top
abbrev pub has_top : Graph → Top → ℕ → Bool
has_top g t n = same_top t (shape_at g.nodes n).top
