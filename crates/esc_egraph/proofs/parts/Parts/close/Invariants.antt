use Rattle.std.proofs.Common.{[], ◌-◌, ◌≤◌, length}
use Rattle.esc_egraph.specs.ClosingInside.{IsSettledIn, IsWaiting}
use Rattle.esc_egraph.proofs.Waiting.{Going}
use Rattle.esc_egraph.proofs.parts.Parts.close.Given as goal

abbrev pub invariant-merges : goal.invariant-merges
invariant-merges g l = record {
  going : Going g.R.CarriesNodes.carried_node l.fn.self l.fn.trail.records l.self l.trail.records
      l.broken;
  within : l.merge ≤ length l.self.classes.merges;
  settled : IsSettledIn l.self (IsWaiting l.self (record
      { members = []; member = 0; entries = 0; merge = l.merge }));
}

abbrev pub decreases-merges : goal.decreases-merges
decreases-merges g l = length l.self.nodes - l.merge
