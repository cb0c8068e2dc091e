use Rattle.std.proofs.Common.{◌≡◌, ℕ, ◌<◌, ◌≤◌, length}
use Rattle.esc_nodes.specs.Nodes.{Shape}
use Rattle.esc_index.specs.Places.{entry_at}
use Rattle.esc_egraph.specs.ClosingInside.{IsMatchIn}
use Rattle.esc_egraph.proofs.parts.Parts.last_match.Given as goal

abbrev pub invariant-places : goal.invariant-places
invariant-places l = record {
  bound : l.end ≤ l.fn.end;
  has : l.end < length l.self.table → (entry_at l.self.table l.end).0 ≡ l.key;
  passed : (p : ℕ) → l.end ≤ p → p < l.fn.end → (let s : Shape = record
      { top = l.top; args = l.args } in IsMatchIn l.self s p) → ⊥;
}

abbrev pub decreases-places : goal.decreases-places
decreases-places l = l.end
