use Rattle.std.proofs.Common.{◌≡◌, map, take}
use Rattle.std.specs.List.{flat_map}
use Rattle.esc_match.specs.WaysInside.{grown, grown_at}
use Rattle.esc_match.proofs.growing.grow_each_at.Given as goal

abbrev pub invariant-ways : goal.invariant-ways
invariant-ways l =
    l.grown ≡ flat_map (grown_at l.graph (map (grown l.graph) l.parts) l.candidates)
    (take l.way-index l.ways)
