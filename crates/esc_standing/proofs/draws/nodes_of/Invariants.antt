use Rattle.std.proofs.Common.{◌≡◌, ◌<◌, length, map, take}
use Rattle.std.specs.List.{All}
use Rattle.esc_nodes.specs.Terms.{term_of}
use Rattle.esc_standing.proofs.draws.nodes_of.Given as goal

abbrev pub invariant-terms : goal.invariant-terms
invariant-terms l =
    All (λ n. n < length l.graph.nodes) l.nodes
    × (map (term_of l.graph.nodes) l.nodes ≡ take l.term-index l.fn.terms)
