use Rattle.std.proofs.Common.{◌≡◌, ◌≤◌, ◌⊎◌, length}
use Rattle.esc_egraph.specs.ClosingInside.{IsSettledIn, IsWaiting, Waiting}
use Rattle.esc_egraph.proofs.Counting.{numbers_below}
use Rattle.esc_egraph.proofs.Waiting.{Going}
use Rattle.esc_egraph.proofs.parts.Parts.settle.Given as goal

abbrev pub invariant-twins : goal.invariant-twins
invariant-twins g l = record {
  going : Going g.R.CarriesNodes.carried_node l.fn.self l.fn.trail.records l.self l.trail.records
      l.broken;
  longer : length l.fn.self.classes.merges ≤ length l.self.classes.merges;
  settled : (w : Waiting) → w.merge ≤ length l.fn.self.classes.merges →
      IsSettledIn l.fn.self (λ n. (n ≡ l.node) ⊎ IsWaiting l.fn.self w n)
      → IsSettledIn l.self (λ n. (n ≡ l.node) ⊎ IsWaiting l.self w n);
}

abbrev pub decreases-twins : goal.decreases-twins
decreases-twins g l = numbers_below l.self.classes.merges (length l.self.nodes)
