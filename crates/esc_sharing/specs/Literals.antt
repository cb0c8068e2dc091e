-- Literals by their nodes, as literals of terms.
use Rattle.std.specs.Prelude.{ℕ, ◌<◌, Bool, true, false, List, map}
use Rattle.esc_term.specs.declared.term.Term.{Term}
use Rattle.esc_term.specs.declared.formula.Formula.TheVariants.{Eq, Less, Distinct}
use Rattle.esc_term.specs.declared.formula.Item.{Item}
use Rattle.esc_egraph.specs.Graph.{Graph}
use Rattle.esc_sharing.specs.Nodes.{node_count, node_term}
use Rattle.esc_sharing.specs.Numbers.{IsNumber}
use Rattle.esc_sharing.specs.declared.literal.Lit.{Lit}
use Rattle.esc_sharing.specs.declared.literal.Lit.TheVariants.{Equal, Apart, Below, AtMost}

abbrev pub equality : Term → Term → Bool → Item
equality s t positive = record { formula = Eq s t; positive = positive }

abbrev pub order : Term → Term → Bool → Item
order s t positive = record { formula = Less s t; positive = positive }

-- not greater is that the second is not less than the first
abbrev pub item_of : Graph → Lit → Item
item_of g (Equal a b) = equality (node_term g a) (node_term g b) true
item_of g (Apart a b) = equality (node_term g a) (node_term g b) false
item_of g (Below a b) = order (node_term g a) (node_term g b) true
item_of g (AtMost a b) = order (node_term g b) (node_term g a) false

-- the terms at any two places differ
abbrev pub group_item : Graph → List ℕ → Item
group_item g group = record { formula = Distinct (map (node_term g) group); positive = true }

abbrev pub sides : Lit → ℕ × ℕ
sides (Equal a b) = (a, b)
sides (Apart a b) = (a, b)
sides (Below a b) = (a, b)
sides (AtMost a b) = (a, b)

-- the sides of an order are arithmetic
abbrev pub AreOrderSides : List (ℕ × Term) → Lit → Type 0
AreOrderSides numbers (Below a b) = IsNumber numbers a × IsNumber numbers b
AreOrderSides numbers (AtMost a b) = IsNumber numbers a × IsNumber numbers b
AreOrderSides numbers lit = Unit {0}

-- both sides are nodes, and those of an order are arithmetic
pub record AreSides (g : Graph) (numbers : List (ℕ × Term)) (lit : Lit) : Type 0 where
  pub first : (sides lit).0 < node_count g
  pub second : (sides lit).1 < node_count g
  pub order : AreOrderSides numbers lit
