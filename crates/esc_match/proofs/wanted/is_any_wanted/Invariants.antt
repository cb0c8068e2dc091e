use Rattle.std.proofs.Common.{◌≡◌, false, take}
use Rattle.std.specs.List.{list_any}
use Rattle.esc_match.proofs.wanted.is_any_wanted.Given as goal

abbrev pub invariant-nodes : goal.invariant-nodes
invariant-nodes g l =
    list_any (g.W.Wanted.wanted l.wanted) (take l.node-index l.nodes) ≡ false
