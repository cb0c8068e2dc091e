use Rattle.std.proofs.Common.{◌≡◌, map, take}
use Rattle.esc_sharing.specs.Nodes.{node_term}
use Rattle.esc_outcome.proofs.keeping.told_terms.Given as goal

abbrev pub invariant-pairs : goal.invariant-pairs
invariant-pairs l = l.terms ≡ map (λ pair. (node_term l.graph pair.0, node_term l.graph pair.1))
    (take l.pair-index l.pairs)
