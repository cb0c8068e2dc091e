use Rattle.std.proofs.Common.{◌≡◌, take}
use Rattle.std.specs.List.{fold}
use Rattle.esc_term.specs.Digest.{mixed}
use Rattle.esc_match.proofs.substitution.digest_of.Given as goal

abbrev pub invariant-nodes : goal.invariant-nodes
invariant-nodes l = l.done ≡ fold mixed 0 (take l.node-index l.nodes)
