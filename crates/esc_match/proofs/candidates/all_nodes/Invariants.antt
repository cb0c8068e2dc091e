use Rattle.std.proofs.Common.{◌≡◌}
use Rattle.esc_match.specs.CandidatesInside.{numbers_below}
use Rattle.esc_match.proofs.candidates.all_nodes.Given as goal

abbrev pub invariant-nodes : goal.invariant-nodes
invariant-nodes l = l.nodes.items ≡ numbers_below l.index
