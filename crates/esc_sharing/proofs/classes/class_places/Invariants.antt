use Rattle.esc_sharing.proofs.ClassPlaces.{ArePlacesTo}
use Rattle.esc_sharing.proofs.classes.class_places.Given as goal

abbrev pub invariant-seats : goal.invariant-seats
invariant-seats l =
    ArePlacesTo l.fn.graph l.fn.simplex.bound l.seats.items l.seat l.places.items
