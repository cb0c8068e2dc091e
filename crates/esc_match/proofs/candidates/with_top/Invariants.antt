use Rattle.std.proofs.Common.{◌≡◌, take}
use Rattle.std.specs.List.{filter}
use Rattle.esc_match.specs.CandidatesInside.{has_top}
use Rattle.esc_match.proofs.candidates.with_top.Given as goal

abbrev pub invariant-nodes : goal.invariant-nodes
invariant-nodes l =
    l.kept.items ≡ filter (has_top l.graph l.top) (take l.node-index l.nodes)
