use Rattle.esc_sharing.proofs.Seats.{IsSeating}
use Rattle.esc_sharing.proofs.sharing.Sharing.telling_order.Given as goal

abbrev pub invariant-seats : goal.invariant-seats
invariant-seats g l = IsSeating l.seats.items l.place l.start l.order.items
