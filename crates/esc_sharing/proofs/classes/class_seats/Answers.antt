use Rattle.std.proofs.Common.{◌≡◌, ◌<◌, length, get_or, arith, rules, subst, sym, ap, ◌∙◌}
use Rattle.std.specs.List.{All, Contains}
use Rattle.std.proofs.lemmas.List.Sorted.{All-permutation, Contains-permutation}
use Rattle.std.proofs.lemmas.List.Sorted.{IsNonDecreasingBy-from_sort_by_key}
use Rattle.esc_egraph.specs.Graph.{number_of}
use Rattle.esc_sharing.specs.KnownInside.{node_at}
use Rattle.esc_sharing.proofs.BoundNodes.{node_is_there}
use Rattle.esc_sharing.proofs.Seats.{IsSeat, seats_each, seats_right}
use Rattle.esc_sharing.proofs.classes.class_seats.Goals as goal

pub class_number-requires : goal.class_number-requires
class_number-requires c =
    let number = c.index-bound-place.result in
    node_is_there c.args.simplex.now number.0 number.1
    (subst (λ ps. Contains ps number) c.bound.invariant.bound
    (c.bound.place, c.bound-test.true, sym c.index-bound-place.is))
    c.args.graph.now c.requires.numbers

pub bound-preserved : goal.bound-preserved
bound-preserved c =
    let g = c.args.graph.now in
    let bound = c.args.simplex.now.bound in
    let number = c.index-bound-place.result in
    let more : c.bound.place < length bound = omega
    (arith, c.bound-test.true, ap length c.bound.invariant.bound) in
    let read : number ≡ get_or bound c.bound.place number = c.index-bound-place.is
    ∙ ap (λ ps. get_or ps c.bound.place number) c.bound.invariant.bound in
    record {
      right = subst (All (IsSeat g bound)) (sym c.in_ok-push.ensures.items)
          (seats_right g bound c.bound.seats.items c.bound.place c.class_number.result number
          more read c.class_number.ensures.number c.bound.invariant.right);
      each = λ i l. subst (λ seats. Contains seats (number_of g (node_at bound i), i))
          (sym c.in_ok-push.ensures.items)
          (seats_each g bound c.bound.seats.items c.bound.place c.class_number.result number
          more read c.class_number.ensures.number c.bound.invariant.each i l);
      bound = c.bound.invariant.bound;
    }

pub returns : goal.returns
returns c = record {
  right = All-permutation (IsSeat c.args.graph.now c.args.simplex.now.bound) c.bound.seats.items
      c.sort_by_key.new.self.items c.in_ok-sort_by_key.ensures.permutation
      c.bound.invariant.right;
  each = λ i l. Contains-permutation c.bound.seats.items c.sort_by_key.new.self.items _
      c.in_ok-sort_by_key.ensures.permutation
      (c.bound.invariant.each i
      (omega (arith, l, c.bound-test.false, ap length c.bound.invariant.bound)));
  rising = IsNonDecreasingBy-from_sort_by_key (λ seat. seat.0) _
      c.in_ok-sort_by_key.ensures.sorted (λ a r q k. search rules);
}
