use Rattle.std.proofs.Common.{◌≡◌, ℕ, ◌<◌, ◌≤◌, length, get_or}
use Rattle.esc_index.specs.Places.{entry_at}
use Rattle.esc_simplex.specs.declared.made.Made.{Made}
use Rattle.esc_simplex.specs.declared.made.Made.TheVariants.{Term}
use Rattle.esc_simplex.proofs.entries.Entries.unknown_for.Given as goal

-- none from the end on was made for it
abbrev pub invariant-places : goal.invariant-places
invariant-places l = record {
  bound : l.end ≤ length l.self-inside.index;
  has : l.end < length l.self-inside.index → (entry_at l.self-inside.index l.end).0 ≡ l.key;
  passed : (k : ℕ) (m : Made) → l.end ≤ k → k < length l.self-inside.list
      → get_or l.self-inside.list k m ≡ Term l.term → ⊥;
}

abbrev pub decreases-places : goal.decreases-places
decreases-places l = l.end
