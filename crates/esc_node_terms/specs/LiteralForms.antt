-- The literals that tell which terms are equal and which differ, and how a graph and groups keep
-- them.
use Rattle.std.specs.Prelude.{◌≡◌, ℕ, ◌<◌, Bool, true, false, IsTrue, List, map, Any}
use Rattle.std.specs.List.{All, Contains}
use Rattle.esc_term.specs.declared.term.Term.{Term}
use Rattle.esc_term.specs.declared.formula.Formula.{Formula, out-Formula}
use Rattle.esc_term.specs.declared.formula.Formula.TheOpen.{Formula-F}
use Rattle.esc_term.specs.declared.formula.Formula.TheVariants as formula
use Rattle.esc_term.specs.declared.formula.Quant.{Quant}
use Rattle.esc_term.specs.declared.formula.Item.{Item}
use Rattle.esc_cover.specs.Classes.{together}
use Rattle.esc_egraph.specs.Graph.{Graph, IsGraph}
use Rattle.esc_node_terms.specs.Nodes.{classes_in, node_count, node_term}

-- ---- their forms

abbrev pub equated : Term → Term → Item
equated s t = record { formula = formula.Eq s t; positive = true }

abbrev pub denied : Term → Term → Item
denied s t = record { formula = formula.Eq s t; positive = false }

abbrev pub told_apart : List Term → Item
told_apart ts = record { formula = formula.Distinct ts; positive = true }

-- an equation with either sign, or a distinction that holds
abbrev pub is_class_form : Formula-F Formula Quant → Bool → Bool
is_class_form (Formula-F.Eq s t) positive = true
is_class_form (Formula-F.Distinct ts) positive = positive
is_class_form _ positive = false

abbrev pub IsClassLiteral : Item → Type 0
IsClassLiteral item = IsTrue (is_class_form (out-Formula item.formula) item.positive)

-- ---- how they are kept

-- All literals are of these forms. The sides of an equation that holds stand in one class, the
-- forbidden pairs are the equations that fail, and the groups the distinctions that hold.
pub record AreKept (g : Graph) (groups : List (List ℕ)) (literals : List Item) : Type 0 where
  pub graph : IsGraph g
  pub members : All (All (λ n. n < node_count g)) groups
  pub forms : All IsClassLiteral literals
  pub equations_are : (s t : Term) → Contains literals (equated s t) →
      IsTrue (together (classes_in g) s t)
  pub pairs_are : All (λ p. Contains literals (denied (node_term g p.0) (node_term g p.1)))
      g.forbidden
  pub denials_are : (s t : Term) → Contains literals (denied s t) →
      Any (λ p. (node_term g p.0 ≡ s) × (node_term g p.1 ≡ t)) g.forbidden
  pub groups_are : All (λ group. Contains literals (told_apart (map (node_term g) group))) groups
  pub distinctions_are : (ts : List Term) → Contains literals (told_apart ts) →
      Any (λ group. map (node_term g) group ≡ ts) groups
