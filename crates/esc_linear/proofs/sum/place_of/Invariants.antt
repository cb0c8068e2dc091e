use Rattle.std.proofs.Common.{take}
use Rattle.esc_linear.specs.PlacesInside.{IsNowhere}
use Rattle.esc_linear.proofs.sum.place_of.Given as goal

abbrev pub invariant-places : goal.invariant-places
invariant-places l = IsNowhere (take l.place l.parts) l.term
