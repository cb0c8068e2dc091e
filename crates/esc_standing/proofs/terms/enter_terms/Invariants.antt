use Rattle.std.proofs.Common.{◌≡◌, length, take}
use Rattle.esc_standing.specs.DepthsInside.{Enters}
use Rattle.esc_standing.proofs.terms.enter_terms.Given as goal

abbrev pub invariant-terms : goal.invariant-terms
invariant-terms l =
    (length l.depths ≡ length l.graph.nodes)
    × Enters l.graph.nodes (take l.term-index l.term-items) l.depth l.unset l.fn.depths l.depths
