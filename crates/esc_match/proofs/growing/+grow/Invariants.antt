use Rattle.std.proofs.Common.{◌≡◌, drop, map, take}
use Rattle.std.specs.List.{flat_map}
use Rattle.esc_match.specs.WaysInside.{grown, grown_at, grown_by_all}
use Rattle.esc_match.proofs.growing.+grow.Given as goal

abbrev pub invariant-grow_at-candidates : goal.invariant-grow_at-candidates
invariant-grow_at-candidates l =
    l.ways ≡ grown_at l.graph (map (grown l.graph) l.parts) (take l.node-index l.candidates) l.way

abbrev pub invariant-grow_all-places : goal.invariant-grow_all-places
invariant-grow_all-places l =
    grown_by_all l.graph (drop l.place l.terms) (drop l.place l.nodes) l.ways
    ≡ grown_by_all l.graph l.terms l.nodes l.fn.start

abbrev pub invariant-grow_each-ways : goal.invariant-grow_each-ways
invariant-grow_each-ways l =
    l.grown ≡ flat_map (grown l.graph l.term l.node) (take l.way-index l.ways)
