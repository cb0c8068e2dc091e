use Rattle.std.proofs.Common.{◌≡◌, take}
use Rattle.esc_nodes.specs.DigestsInside.{shape_digest}
use Rattle.esc_nodes.proofs.nodes.Nodes.digest_of.Given as goal

abbrev pub invariant-places : goal.invariant-places
invariant-places l = l.done ≡ shape_digest l.self l.fn.top (take l.arg-index l.args)
