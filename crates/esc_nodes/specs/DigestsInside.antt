-- The numbers by which nodes are looked up.
use Rattle.std.specs.Prelude.{ℕ, List, map}
use Rattle.std.specs.List.{fold}
use Rattle.esc_nodes.specs.declared.top.Top.{Top}
use Rattle.esc_nodes.specs.Nodes.{Shape}
use Rattle.esc_nodes.specs.Terms.{terms_of, term_of}
use Rattle.esc_term.specs.Digest.{mixed, digest}
use Rattle.esc_nodes.specs.TopDigest.{top_digest}

-- those of the terms of nodes
abbrev pub digests : List Shape → List ℕ
digests nodes = map digest (terms_of nodes)

-- that of the term with this top over the terms of these nodes
abbrev pub shape_digest : List Shape → Top → List ℕ → ℕ
shape_digest nodes top args =
    fold (λ d a. mixed d (digest (term_of nodes a))) (top_digest top) args
