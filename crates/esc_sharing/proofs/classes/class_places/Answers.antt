use Rattle.std.proofs.Common.{◌≡◌, ℕ, ◌+◌, ◌-◌, ◌<◌, ◌++◌, ◌∷◌, [], length, get_or, Vec, Global}
use Rattle.std.proofs.Common.{sym, ap, ◌∙◌, subst, arith}
use Rattle.std.proofs.lemmas.List.{get_or_read}
use Rattle.esc_sharing.specs.KnownInside.{class_at}
use Rattle.esc_sharing.proofs.ClassPlaces.{ArePlacesTo, places-done, places-new, places-on}
use Rattle.esc_sharing.proofs.ClassPlaces.{places-start}
use Rattle.esc_sharing.proofs.classes.class_places.Goals as goal
use Rattle.esc_sharing.proofs.classes.class_places.Goals.{then-starts_class+in_ok-push, else-starts_class}

pub seats-init : goal.seats-init
seats-init c = subst (ArePlacesTo c.args.graph.now c.args.simplex.now.bound
    c.in_ok-seats.seats.items 0) (sym c.new-places.ensures.items)
    (places-start c.args.graph.now c.args.simplex.now.bound c.in_ok-seats.seats.items)

pub seats-preserved : goal.seats-preserved
seats-preserved c =
    let g = c.args.graph.now in
    let bound = c.args.simplex.now.bound in
    let seats = c.in_ok-seats.seats.items in
    let n = c.seats.seat in
    let held = c.index-held.result.now in
    let inside : n < length seats = omega (arith, c.seats-test.true) in
    let read : held ≡ get_or seats n held = get_or_read seats n held inside
    c.index-held.ensures held in
    elim c.if-starts_class.branch [
      | then-starts_class+in_ok-push w ↦
          let grown : c.if-starts_class.places.items ≡ c.seats.places.items ++ held.1 ∷ [] =
          ap (λ (v : Vec ℕ Global). v.items) w.places-is ∙ w.in_ok-push.ensures.items in
          subst (ArePlacesTo g bound seats (n + 1)) (sym grown)
          (places-new g bound seats c.in_ok-seats.ensures n inside c.seats.places.items
          c.seats.invariant held read)
      | else-starts_class w ↦
          let more = c.starts_class.ensures w.if-starts_class.false in
          let same : class_at seats (n - 1) ≡ class_at seats n =
          subst (λ ss. class_at ss (n - 1) ≡ class_at ss n) c.as_slice.ensures.value more.1 in
          subst (λ (v : Vec ℕ Global). ArePlacesTo g bound seats (n + 1) v.items)
          (sym w.places-is)
          (places-on g bound seats c.in_ok-seats.ensures n inside c.seats.places.items
          c.seats.invariant more.0 same)
    ]

pub returns : goal.returns
returns c = places-done c.args.graph.now c.args.simplex.now.bound c.in_ok-seats.seats.items
    c.in_ok-seats.ensures c.seats.seat (omega (arith, c.seats-test.false)) c.seats.places.items
    c.sort_unstable.new.self.items c.seats.invariant c.sort_unstable.ensures.permutation
