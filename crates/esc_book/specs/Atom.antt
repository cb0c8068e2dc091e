-- Which occurrences are atoms, and what is told of them.
use Rattle.std.specs.Prelude.{◌≡◌, ℕ, ◌<◌, Bool, true, false, List, map, Option, Some}
use Rattle.std.specs.List.{All}
use Rattle.std.specs.Option.{IsSomeAnd}
use Rattle.esc_term.specs.declared.term.Term.{Term}
use Rattle.esc_term.specs.declared.formula.Formula.{Formula}
use Rattle.esc_term.specs.declared.formula.Formula.TheVariants as formula
use Rattle.esc_term.specs.declared.formula.Formula.TheOpen.{Formula-F}
use Rattle.esc_term.specs.declared.formula.Formula.TheViews.{out-Formula}
use Rattle.esc_term.specs.declared.formula.Quant.{Quant}
use Rattle.esc_clause.specs.Expansion as expansion
use Rattle.esc_clause.specs.Occurrences.{formula_at}
use Rattle.esc_clause.specs.declared.occurrence.Occurrence.{Occurrence}
use Rattle.esc_egraph.specs.Graph.{Graph}
use Rattle.esc_sharing.specs.Nodes.{node_count, node_term}
use Rattle.esc_sharing.specs.Unquantified.{is_quantified_form}
use Rattle.esc_book.specs.declared.atom.Atom.{Atom}
use Rattle.esc_book.specs.declared.atom.Atom.TheVariants as atom
use Rattle.esc_book.specs.declared.expanded.Expanded.{Expanded}
use Rattle.esc_book.specs.declared.expanded.Expanded.TheVariants as to

abbrev pub is_atom_form : Formula-F Formula Quant → Bool
is_atom_form (Formula-F.Eq s t) = true
is_atom_form (Formula-F.Less s t) = true
is_atom_form (Formula-F.Distinct ts) = true
is_atom_form (Formula-F.Forall quant) = true
is_atom_form (Formula-F.Exists quant) = true
is_atom_form form = false

-- an equation, an order, a distinction or a quantified formula stands there
abbrev pub IsAtomAt : List Formula → Occurrence → Type 0
IsAtomAt fs at = IsSomeAnd (formula_at fs at) (λ f. is_atom_form (out-Formula f) ≡ true)

-- a distinction stands there
abbrev pub IsDistinctAt : List Formula → Occurrence → Type 0
IsDistinctAt fs at = (ts : List Term) × (formula_at fs at ≡ Some (formula.Distinct ts))

-- the formula is the equation or the order of these nodes' terms, or is of that form
abbrev pub IsAtomOf : Graph → Option Formula → Atom → Type 0
IsAtomOf g o (atom.Equal a b) =
    (o ≡ Some (formula.Eq (node_term g a) (node_term g b)))
    × ((a < node_count g) × (b < node_count g))
IsAtomOf g o (atom.Less a b) =
    (o ≡ Some (formula.Less (node_term g a) (node_term g b)))
    × ((a < node_count g) × (b < node_count g))
IsAtomOf g o atom.Distinct = (ts : List Term) × (o ≡ Some (formula.Distinct ts))
IsAtomOf g o atom.Quantified = IsSomeAnd o (λ f. is_quantified_form (out-Formula f) ≡ true)

-- these are nodes, and the formula is the distinction of their terms
pub record IsGroupOf (g : Graph) (o : Option Formula) (group : List ℕ) : Type 0 where
  pub is : o ≡ Some (formula.Distinct (map (node_term g) group))
  pub nodes : All (λ a. a < node_count g) group

-- what is told of an expansion
abbrev pub expansion_of : Expanded → expansion.Expansion
expansion_of (to.AllOf parts) = expansion.AllOf parts
expansion_of (to.OneOfEach clauses) = expansion.OneOfEach clauses
expansion_of to.Never = expansion.Never
expansion_of to.Literal = expansion.Literal

-- what expands to a literal is an atom
abbrev pub LiteralIsAtom : Type 0
LiteralIsAtom = (fs : List Formula) (at : Occurrence)
    → expansion.expanded fs at ≡ expansion.Literal → IsAtomAt fs at
