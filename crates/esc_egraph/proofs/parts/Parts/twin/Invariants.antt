use Rattle.std.proofs.Common.{◌≡◌, ℕ, ◌<◌, ◌≤◌, length}
use Rattle.esc_nodes.specs.Nodes.{shape_at}
use Rattle.esc_union.specs.Merges.{SameClass, class_number}
use Rattle.esc_index.specs.Places.{entry_at}
use Rattle.esc_egraph.specs.ClosingInside.{IsMatchIn}
use Rattle.esc_egraph.proofs.parts.Parts.twin.Given as goal

abbrev pub invariant-places : goal.invariant-places
invariant-places l = record {
  bound : l.end ≤ length l.self.table;
  has : l.end < length l.self.table → (entry_at l.self.table l.end).0 ≡ l.key;
  passed : (p : ℕ) → l.end ≤ p → p < length l.self.table
      → IsMatchIn l.self (shape_at l.self.nodes l.node) p →
      SameClass (class_number l.self.classes.merges) l.node (entry_at l.self.table p).1;
}

abbrev pub decreases-places : goal.decreases-places
decreases-places l = l.end
