use Rattle.std.proofs.Common.{◌≡◌, map, take}
use Rattle.esc_maps.specs.declared.map_match.MapMatch.TheVariants.{Write}
use Rattle.esc_maps.proofs.map_match.alone.Given as goal

abbrev pub invariant-writes : goal.invariant-writes
invariant-writes l = l.found ≡ map Write (take l.write-index l.writes)
