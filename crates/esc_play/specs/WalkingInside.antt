-- How a formula is walked over: nodes are made for the sides of its atoms, and those that become
-- arithmetic are gathered on the way.
use Rattle.std.specs.Prelude.{◌≡◌, ℕ, List, ◌++◌}
use Rattle.std.specs.List.{filter, flat_map, fold}
use Rattle.esc_term.specs.declared.term.Term.{Term}
use Rattle.esc_term.specs.declared.formula.Formula.{Formula}
use Rattle.esc_term.specs.declared.formula.Formula.TheViews.{out-Formula}
use Rattle.esc_term.specs.Term.{with_once}
use Rattle.esc_trail.specs.Undo.{Notes}
use Rattle.esc_cover.specs.Arithmetic.{is_number, operands, order_sides_form}
use Rattle.esc_cover.specs.Atoms.{atoms_of}
use Rattle.esc_nodes.specs.Nodes.{Shape}
use Rattle.esc_simplex.specs.SimplexUndo.{simplex_undo}
use Rattle.esc_simplex.specs.declared.record.SimplexRec.{SimplexRec}
use Rattle.esc_simplex.specs.declared.simplex.Simplex.{Simplex}
use Rattle.esc_sharing.specs.Calls.{GathersFor}
use Rattle.esc_sharing.specs.Nodes.{terms_in}
use Rattle.esc_sharing.specs.Shared.{IsShared, Shared, literals_in}
use Rattle.esc_sharing.specs.SharingUndo.{sharing_undo}
use Rattle.esc_sharing.specs.declared.record.PartRec.{PartRec}
use Rattle.esc_sharing.specs.declared.sharing.Sharing.{Sharing}

-- what becomes arithmetic where these terms come in play, and these others are sides of orders
abbrev pub arithmetic_of : List Term → List Term → List Term
arithmetic_of terms sides = filter is_number terms ++ (operands terms ++ sides)

-- the sides of the orders in a formula, outside quantified ones
abbrev pub sides_in : Formula → List Term
sides_in f = flat_map (λ atom. order_sides_form (out-Formula atom)) (atoms_of f)

-- the terms came behind those in play, each once, and the nodes that become arithmetic by them, and
-- by these sides of orders, behind the others
pub record Brings (v w : Shared) (old new : List ℕ) (terms sides : List Term) : Type 0 where
  pub shared : IsShared w
  pub terms_are : terms_in w.graph ≡ fold with_once (terms_in v.graph) terms
  pub nodes : (more : List Shape) × (w.graph.nodes ≡ v.graph.nodes ++ more)
  pub literals : literals_in w ≡ literals_in v
  pub numbers : GathersFor w.graph old new (arithmetic_of terms sides)

-- nothing but the graph changed, and what takes that back is on the trail
pub record Walks {W : Type 0} (carry : PartRec SimplexRec → W) (before after : List W)
    (s t : Sharing Simplex) : Type 0 where
  pub rest : t ≡ record s { graph = t.graph }
  pub undo : Notes (sharing_undo simplex_undo) carry before after s t
