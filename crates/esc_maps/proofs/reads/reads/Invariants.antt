use Rattle.esc_maps.specs.ReadsInside.{AreReads}
use Rattle.esc_maps.proofs.reads.reads.Given as goal

abbrev pub invariant-nodes : goal.invariant-nodes
invariant-nodes l = AreReads l.graph l.standing l.index l.entries
