use Rattle.std.proofs.Common.{◌≡◌, ◌<◌, ◌≤◌, length}
use Rattle.esc_index.specs.Places.{entry_at}
use Rattle.esc_egraph.proofs.Over.{IsSettling}
use Rattle.esc_egraph.proofs.Waiting.{Going}
use Rattle.esc_egraph.proofs.parts.Parts.settle_over.Given as goal

abbrev pub invariant-places : goal.invariant-places
invariant-places g l = record {
  going : Going g.R.CarriesNodes.carried_node l.fn.self l.fn.trail.records l.self l.trail.records
      l.broken;
  bound : l.end ≤ length l.self.uses;
  has : l.end < length l.self.uses → (entry_at l.self.uses l.end).0 ≡ l.member;
  settling : IsSettling l.fn.self l.self l.member l.end;
}

abbrev pub decreases-places : goal.decreases-places
decreases-places g l = l.end
