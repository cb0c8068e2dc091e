use Rattle.std.proofs.Common.{◌≡◌, ◌<◌, ℕ, length}
use Rattle.std.specs.List.{All, Contains}
use Rattle.esc_egraph.specs.Graph.{number_of}
use Rattle.esc_sharing.specs.KnownInside.{node_at}
use Rattle.esc_sharing.proofs.classes.class_seats.Given as goal

abbrev pub invariant-bound : goal.invariant-bound
invariant-bound l = record {
  right : All (λ seat. (seat.1 < length l.fn.simplex.bound)
      × (seat.0 ≡ number_of l.fn.graph (node_at l.fn.simplex.bound seat.1))) l.seats.items;
  each : (i : ℕ) → i < l.place
      → Contains l.seats.items (number_of l.fn.graph (node_at l.fn.simplex.bound i), i);
  bound : l.bound ≡ l.fn.simplex.bound;
}
