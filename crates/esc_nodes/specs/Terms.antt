-- The terms of nodes.
use Rattle.std.specs.Prelude.{ℕ, pos, List, [], ◌∷◌, ◌++◌, map, slice_index_or}
use Rattle.std.specs.List.{fold}
use Rattle.esc_term.specs.declared.term.Term.{Term}
use Rattle.esc_term.specs.declared.term.Term.TheVariants as term
use Rattle.esc_nodes.specs.Nodes.{Shape}
use Rattle.esc_nodes.specs.declared.top.Top.{Top}
use Rattle.esc_nodes.specs.declared.top.Top.TheVariants.{Num, App}

-- the term of a shape, where the nodes of the arguments have these terms
abbrev pub built : (ℕ → Term) → Top → List ℕ → Term
built of (Num n) args = term.Num n
built of (App head) args = term.App head (map of args)

-- the term at a place, and the numeral 0 where there is none
abbrev pub at_place : List Term → ℕ → Term
at_place terms k = slice_index_or terms k (term.Num (pos 0))

abbrev pub with_next : List Term → Shape → List Term
with_next terms s = terms ++ (built (at_place terms) s.top s.args ∷ [])

-- the terms of the nodes, where each is built of those before it
unfoldable pub terms_of : List Shape → List Term
terms_of = fold with_next []

unfoldable pub term_of : List Shape → ℕ → Term
term_of nodes k = at_place (terms_of nodes) k
