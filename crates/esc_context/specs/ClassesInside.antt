-- The value of a class: that of an arithmetic term in it, in the theory's sample.
use Rattle.std.specs.Prelude.{◌≡◌, ℕ, ◌<◌, List, map, Option, Some, None}
use Rattle.std.specs.List.{All, Contains}
use Rattle.esc_frac.specs.Rational.{ℚ}
use Rattle.esc_tableau.specs.Table.{sample}
use Rattle.esc_simplex.specs.View.{bound_to}
use Rattle.esc_simplex.specs.declared.simplex.Simplex.{Simplex}
use Rattle.esc_sharing.specs.Nodes.{node_count, node_term}
use Rattle.esc_sharing.specs.declared.sharing.Sharing.{Sharing}
use Rattle.esc_outcome.specs.declared.counterexample.Class.{Class}

-- an arithmetic node among these whose unknown has this sample, and no value where there is none
abbrev pub IsSampleAmong : Simplex → List ℕ → Option ℚ → Type 0
IsSampleAmong v nodes None = (a : ℕ) → Contains nodes a → bound_to v.bound a ≡ None
IsSampleAmong v nodes (Some q) = (a : ℕ) × (u : ℕ) × Contains nodes a
    × (bound_to v.bound a ≡ Some u) × (q ≡ sample v.tableau u)

-- the terms of these nodes, with a sample of one of them
pub record IsClassOfNodes (s : Sharing Simplex) (nodes : List ℕ) (class : Class) : Type 0 where
  pub terms : class.terms ≡ map (node_term s.graph) nodes
  pub value : IsSampleAmong s.theory nodes class.value

-- the nodes of the class are nodes of the graph, and one of them that is arithmetic has this sample
abbrev pub HasSample : Sharing Simplex → Class → Type 0
HasSample s class = (nodes : List ℕ) × All (λ a. a < node_count s.graph) nodes
    × IsClassOfNodes s nodes class
