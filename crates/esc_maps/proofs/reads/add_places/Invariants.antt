use Rattle.esc_maps.specs.ReadsInside.{AreAdded}
use Rattle.esc_maps.proofs.reads.add_places.Given as goal

abbrev pub invariant-reads : goal.invariant-reads
invariant-reads l = AreAdded l.reads l.class l.fn.places.items l.places.items l.end

abbrev pub decreases-reads : goal.decreases-reads
decreases-reads l = l.end
