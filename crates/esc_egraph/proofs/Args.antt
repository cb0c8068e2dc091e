-- The arguments of the nodes of a graph.
use Rattle.std.proofs.Common.{◌≡◌, ℕ, ◌<◌, length, All, arith}
use Rattle.std.proofs.lemmas.List.Elements.{All-weaker}
use Rattle.esc_nodes.specs.Nodes.{shape_at}
use Rattle.esc_egraph.specs.Graph.{Graph, IsGraph}

-- the arguments of a node are nodes, of which there are as many as this
pub args_are_there : (g : Graph) (count : ℕ) → IsGraph g → count ≡ length g.nodes → (k : ℕ) → k
    < length g.nodes → All (λ a. a < count) (shape_at g.nodes k).args
args_are_there g count is e k l =
    All-weaker (λ a. a < k) (λ a. a < count) (λ a less. omega (arith, less, l, e))
    (shape_at g.nodes k).args (is.terms.older k l)
