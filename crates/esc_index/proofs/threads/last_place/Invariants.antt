use Rattle.std.proofs.Common.{◌≡◌, ℕ, ◌+◌, ◌≤◌, ◌%◌, length}
use Rattle.esc_index.specs.Places.{HasNone}
use Rattle.esc_index.specs.ThreadsInside.{bucket_at}
use Rattle.esc_index.proofs.threads.last_place.Given as goal

abbrev pub invariant-places : goal.invariant-places
invariant-places l = record {
  bound : l.head ≤ l.end;
  has : (p : ℕ) → l.head ≡ p + 1 → bucket_at l.entries (length l.heads) p ≡ l.key % length l.heads;
  last : HasNone l.entries l.key l.head l.end;
}

abbrev pub decreases-places : goal.decreases-places
decreases-places l = l.head
