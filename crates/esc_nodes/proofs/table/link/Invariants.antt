use Rattle.std.proofs.Common.{◌≡◌, length}
use Rattle.esc_nodes.specs.TableInside.{AreLinked}
use Rattle.esc_nodes.proofs.table.link.Given as goal

abbrev pub invariant-nodes : goal.invariant-nodes
invariant-nodes l = record {
  count : length l.ends ≡ length l.fn.ends;
  linked : AreLinked l.digests l.ends l.ends_before l.index;
}
