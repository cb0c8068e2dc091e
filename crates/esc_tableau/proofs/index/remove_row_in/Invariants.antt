use Rattle.std.proofs.Common.{◌≡◌, ℕ, ◌<◌, ◌≤◌, get_or}
use Rattle.esc_tableau.specs.IndexInside.{shifted}
use Rattle.esc_tableau.specs.declared.index.Place.TheVariants.{Unnoted}
use Rattle.esc_tableau.proofs.index.remove_row_in.Given as goal

-- the places so far are shifted, and the others are as they were
abbrev pub invariant-loop-place : goal.invariant-loop-place
invariant-loop-place l = record {
  done : (k : ℕ) → k < l.place-index → get_or l.places k Unnoted
      ≡ shifted l.row (get_or l.initial.places k Unnoted);
  left : (k : ℕ) → l.place-index ≤ k → get_or l.places k Unnoted
      ≡ get_or l.initial.places k Unnoted;
}
