use Rattle.std.proofs.Common.{ℕ, List, take}
use Rattle.esc_maps.specs.Chosen.{StandFor}
use Rattle.esc_maps.specs.ReadsInside.{AreReadsOf, Rises}
use Rattle.esc_maps.proofs.map_match.reads_of.Given as goal

abbrev pub invariant-writes : goal.invariant-writes
invariant-writes l =
    (depths : List ℕ) → StandFor l.graph depths l.standing → Rises l.writes
    → AreReadsOf l.graph depths (take l.write-index l.writes) l.found
