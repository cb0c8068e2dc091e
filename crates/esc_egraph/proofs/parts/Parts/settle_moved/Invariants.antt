use Rattle.std.proofs.Common.{◌≡◌, ◌+◌, ◌<◌, drop, length}
use Rattle.esc_union.specs.Members.{moved_by}
use Rattle.esc_egraph.specs.ClosingInside.{IsSettledIn, IsWaiting}
use Rattle.esc_egraph.proofs.Waiting.{Going}
use Rattle.esc_egraph.proofs.parts.Parts.settle_moved.Given as goal

abbrev pub invariant-members : goal.invariant-members
invariant-members g l = record {
  going : Going g.R.CarriesNodes.carried_node l.fn.self l.fn.trail.records l.self l.trail.records
      l.broken;
  there : l.merge < length l.self.classes.merges;
  moved : moved_by l.self.classes.merges l.merge ≡ moved_by l.fn.self.classes.merges l.merge;
  settled : IsSettledIn l.self (IsWaiting l.self (record {
    members = drop l.place (moved_by l.self.classes.merges l.merge);
    member = 0;
    entries = 0;
    merge = l.merge + 1;
  }));
}
