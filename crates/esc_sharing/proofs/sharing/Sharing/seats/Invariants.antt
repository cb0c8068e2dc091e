use Rattle.std.proofs.Common.{◌≡◌, ◌<◌, ℕ, length}
use Rattle.std.specs.List.{All, Contains}
use Rattle.esc_egraph.specs.Graph.{number_of}
use Rattle.esc_sharing.specs.KnownInside.{node_at}
use Rattle.esc_sharing.proofs.sharing.Sharing.seats.Given as goal

abbrev pub invariant-known : goal.invariant-known
invariant-known g l = record {
  right : All (λ seat. (seat.1 < length l.known)
      × (seat.0 ≡ number_of l.fn.self.graph (node_at l.known seat.1))) l.seats.items;
  each : (i : ℕ) → i < l.place
      → Contains l.seats.items (number_of l.fn.self.graph (node_at l.known i), i);
}
