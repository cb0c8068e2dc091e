use Rattle.std.proofs.Common.{◌≡◌, ℕ, ◌<◌, ◌≤◌, length, get_or, Some, None}
use Rattle.esc_index.specs.Places.{entry_at}
use Rattle.esc_simplex.proofs.bindings.Bindings.unknown_of.Given as goal

-- the unknown of the pair at the end, where a pair is found
abbrev pub invariant-pairs : goal.invariant-pairs
invariant-pairs l = record {
  bound : l.end ≤ length l.self-inside.index;
  none : l.found ≡ None → l.end ≡ length l.self-inside.index;
  some : (u : ℕ) → l.found ≡ Some u → l.end < length l.self-inside.index;
  key : l.end < length l.self-inside.index → (entry_at l.self-inside.index l.end).0 ≡ l.a;
  unknown : (u : ℕ) → l.found ≡ Some u → (get_or l.self-inside.list l.end (0, 0)).1 ≡ u;
}

abbrev pub decreases-pairs : goal.decreases-pairs
decreases-pairs l = l.end
