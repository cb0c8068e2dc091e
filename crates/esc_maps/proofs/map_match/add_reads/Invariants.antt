use Rattle.std.proofs.Common.{◌≡◌, ◌++◌, map, take}
use Rattle.esc_maps.specs.declared.map_match.MapMatch.TheVariants.{Read}
use Rattle.esc_maps.proofs.map_match.add_reads.Given as goal

abbrev pub invariant-places : goal.invariant-places
invariant-places l = l.found ≡ l.fn.found ++ map (Read l.write) (take l.place-index l.places)
