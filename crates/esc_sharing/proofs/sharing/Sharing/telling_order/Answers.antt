use Rattle.std.proofs.Common.{ℕ, ◌<◌, length, ap, arith, subst, sym, ◌∙◌}
use Rattle.std.proofs.lemmas.List.{get_or_default}
use Rattle.esc_sharing.specs.KnownInside.{StartsAt}
use Rattle.esc_sharing.proofs.Seats.{IsSeating, seating-done, seating-more, starts_there}
use Rattle.esc_sharing.proofs.sharing.Sharing.telling_order.Goals as goal

pub seats-preserved : goal.seats-preserved
seats-preserved g c =
    let seats = c.in_ok-seats.seats.items in
    let now = c.class_start-start.result in
    let starts : StartsAt seats c.seats.place c.seats.start now =
    subst (λ list. StartsAt list c.seats.place c.seats.start now) c.as_slice.ensures.value
    c.class_start-start.ensures in
    let there : now < length seats = starts_there seats c.seats.place c.seats.start now
    (omega arith) c.seats.invariant.reached starts in
    subst (IsSeating seats _ now) (sym c.in_ok-push.ensures.items)
    (seating-more seats c.seats.place c.seats.start now c.seats.order.items
    (record {
      turn = c.turn-turn.result;
      first = c.index.result.now.1;
      later = c.index-in-seats.result.now.1;
    }) c.in_ok-seats.ensures.rising (omega arith) c.seats.invariant
    starts
    (ap (λ (seat : ℕ × ℕ). seat.1) (c.index-in-seats.ensures
    ∙ get_or_default seats c.seats.place c.index-in-seats.result.now (0, 0) (omega arith)))
    (ap (λ (seat : ℕ × ℕ). seat.1) (c.index.ensures
    ∙ get_or_default seats now c.index.result.now (0, 0) there)))

pub returns : goal.returns
returns g c =
    seating-done c.args.self.now.graph c.args.known.now c.in_ok-seats.seats.items c.seats.place
    c.seats.start c.seats.order.items c.sort_by_key.new.self.items c.in_ok-seats.ensures
    (omega arith) c.seats.invariant c.in_ok-sort_by_key.ensures.permutation
