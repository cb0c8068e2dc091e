use Rattle.std.proofs.Common.{◌≡◌, ℕ, ◌<◌, ◌≤◌, length}
use Rattle.esc_union.specs.Merges.{SameClass, class_number}
use Rattle.esc_index.specs.Places.{entry_at}
use Rattle.esc_egraph.proofs.parts.apart.meets.Given as goal

abbrev pub invariant-places : goal.invariant-places
invariant-places l = record {
  bound : l.end ≤ length l.entries;
  has : l.end < length l.entries → (entry_at l.entries l.end).0 ≡ l.node;
  passed : (p : ℕ) → l.end ≤ p → p < length l.entries → (entry_at l.entries p).0 ≡ l.node →
      SameClass (class_number l.classes.merges) (entry_at l.entries p).1 l.other → ⊥;
}

abbrev pub decreases-places : goal.decreases-places
decreases-places l = l.end
