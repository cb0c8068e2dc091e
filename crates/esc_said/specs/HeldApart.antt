-- How literals are kept apart in a graph and in groups.
use Rattle.std.specs.Prelude.{◌↔◌, ℕ, ◌<◌, true, false, List, map}
use Rattle.std.specs.List.{All, Contains}
use Rattle.esc_term.specs.declared.term.Term.{Term}
use Rattle.esc_term.specs.declared.formula.Formula.TheVariants as formula
use Rattle.esc_term.specs.declared.formula.Item.{Item}
use Rattle.esc_egraph.specs.Graph.{Graph}
use Rattle.esc_sharing.specs.Literals.{equality, group_item}
use Rattle.esc_sharing.specs.Nodes.{node_count, node_term}

-- that the terms of a forbidden pair differ
abbrev pub denial : Graph → ℕ × ℕ → Item
denial g pair = equality (node_term g pair.0) (node_term g pair.1) false

abbrev pub distinction : List Term → Item
distinction ts = record { formula = formula.Distinct ts; positive = true }

-- the forbidden pairs are the equations that fail, and the groups the distinctions that hold
pub record AreHeldApart (g : Graph) (groups : List (List ℕ)) (literals : List Item) : Type 0 where
  pub denials : (s t : Term) → Contains literals (equality s t false)
      ↔ Contains (map (denial g) g.forbidden) (equality s t false)
  pub distinctions : (ts : List Term) → Contains literals (distinction ts)
      ↔ Contains (map (group_item g) groups) (distinction ts)
  pub members : All (All (λ a. a < node_count g)) groups
