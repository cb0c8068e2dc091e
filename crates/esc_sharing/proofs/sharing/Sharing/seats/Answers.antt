use Rattle.std.proofs.Common.{arith, rules, subst, sym}
use Rattle.std.specs.List.{All, Contains}
use Rattle.std.proofs.lemmas.List.Sorted.{All-permutation, Contains-permutation}
use Rattle.std.proofs.lemmas.List.Sorted.{IsNonDecreasingBy-from_sort_by_key}
use Rattle.esc_egraph.specs.Graph.{number_of}
use Rattle.esc_sharing.specs.KnownInside.{node_at}
use Rattle.esc_sharing.proofs.Seats.{IsSeat, seats_each, seats_right}
use Rattle.esc_sharing.proofs.sharing.Sharing.seats.Goals as goal

pub known-preserved : goal.known-preserved
known-preserved g c = record {
  right = subst (All (IsSeat c.args.self.now.graph c.args.known.now))
      (sym c.in_ok-push.ensures.items)
      (seats_right c.args.self.now.graph c.args.known.now c.known.seats.items c.known.place
      c.class_number.result c.index-known-place.result c.known-test.true
      c.index-known-place.is c.class_number.ensures.number c.known.invariant.right);
  each = λ i l. subst (λ seats. Contains seats
      (number_of c.args.self.now.graph (node_at c.args.known.now i), i))
      (sym c.in_ok-push.ensures.items)
      (seats_each c.args.self.now.graph c.args.known.now c.known.seats.items c.known.place
      c.class_number.result c.index-known-place.result c.known-test.true
      c.index-known-place.is c.class_number.ensures.number c.known.invariant.each i l);
}

pub returns : goal.returns
returns g c = record {
  right = All-permutation (IsSeat c.args.self.now.graph c.args.known.now) c.known.seats.items
      c.sort_by_key.new.self.items c.in_ok-sort_by_key.ensures.permutation
      c.known.invariant.right;
  each = λ i l. Contains-permutation c.known.seats.items c.sort_by_key.new.self.items _
      c.in_ok-sort_by_key.ensures.permutation
      (c.known.invariant.each i (omega (arith, l)));
  rising = IsNonDecreasingBy-from_sort_by_key (λ seat. seat.0) _
      c.in_ok-sort_by_key.ensures.sorted (λ a r q k. search rules);
}
