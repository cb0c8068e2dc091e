use Rattle.std.proofs.Common.{◌≡◌, ℕ, ◌<◌, ◌≤◌, get_or}
use Rattle.esc_tableau.specs.Listed.{owner_with}
use Rattle.esc_tableau.specs.Table.{nobody}
use Rattle.esc_tableau.proofs.lists.mark_listed.Given as goal

-- the owners so far are marked, and the others are as they were
abbrev pub invariant-loop-owner : goal.invariant-loop-owner
invariant-loop-owner l = record {
  done : (k : ℕ) → k < l.owner-index → get_or l.owners k nobody
      ≡ owner_with l.restricted (get_or l.initial.owners k nobody).unknown;
  left : (k : ℕ) → l.owner-index ≤ k → get_or l.owners k nobody ≡ get_or l.initial.owners k nobody;
}
