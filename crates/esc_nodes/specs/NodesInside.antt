-- How nodes are held.
use Rattle.std.specs.Prelude.{ℕ, List, map, ◌≡◌, ◌≤◌, length, All, slice_range}
use Rattle.std.specs.List.{AllPairs}
use Rattle.esc_nodes.specs.Nodes.{Shape, AreTerms}
use Rattle.esc_nodes.specs.DigestsInside.{digests}
use Rattle.esc_nodes.specs.declared.nodes.Nodes.TheInside.{Inside}
use Rattle.esc_nodes.specs.declared.nodes.Entry.{Entry}

-- an entry's shape, where these are the arguments of all nodes
abbrev pub shape_in : List ℕ → Entry → Shape
shape_in args e = record { top = e.top; args = slice_range args e.start e.end }

abbrev pub nodes_of : Inside → List Shape
nodes_of n = map (shape_in n.args.items) n.entries.items

-- the arguments of an entry stand at places that there are, and before those of later ones
pub record AreSpans (args : List ℕ) (entries : List Entry) : Type 0 where
  pub within : All (λ e. (e.start ≤ e.end) × (e.end ≤ length args)) entries
  pub in_order : AllPairs (λ e f. e.end ≤ f.start) entries

-- the nodes are terms, and the table has their digests
pub record IsSound (n : Inside) : Type 0 where
  pub spans : AreSpans n.args.items n.entries.items
  pub terms : AreTerms (nodes_of n)
  pub filed : n.table.digests ≡ digests (nodes_of n)
