-- What is said of orders by one literal, and of a term's being unlike others.
use Rattle.std.specs.Prelude.{ℕ, Bool, true, false, ◌==◌, ◌&&◌, List}
use Rattle.std.specs.List.{list_all, list_any}
use Rattle.esc_term.specs.declared.formula.Item.{Item}
use Rattle.esc_cover.specs.Classes.{together}
use Rattle.esc_cover.specs.Cover.{Cover, is_forced_apart}
use Rattle.esc_egraph.specs.Graph.{Graph}
use Rattle.esc_sharing.specs.Nodes.{classes_in, node_term}
use Rattle.esc_sharing.specs.declared.literal.Lit.{Lit}
use Rattle.esc_sharing.specs.declared.literal.Lit.TheVariants.{Below, AtMost}

-- the literal is the order of the two nodes, with this sign
abbrev pub tells_order : ℕ → ℕ → Bool → Lit → Bool
tells_order a b true (Below x y) = (x == a) && (y == b)
tells_order a b false (AtMost x y) = (y == a) && (x == b)
tells_order a b positive lit = false

-- that the term of a node differs from each of these nodes' terms
abbrev pub unlike_each : List Item → Graph → ℕ → List ℕ → Cover
unlike_each literals g a others = record {
  holds = list_all (λ b. is_forced_apart literals (classes_in g) (node_term g a) (node_term g b))
      others;
  fails = list_any (λ b. together (classes_in g) (node_term g a) (node_term g b)) others;
}
