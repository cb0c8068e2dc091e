use Rattle.std.proofs.Common.{◌≡◌, map, take}
use Rattle.esc_sharing.specs.ArithmeticInside.{pair_at}
use Rattle.esc_sharing.proofs.classes.numbers_at.Given as goal

abbrev pub invariant-places : goal.invariant-places
invariant-places l = record {
  read : l.numbers.items ≡ map (pair_at l.fn.simplex.bound) (take l.index l.fn.places);
  bound : l.bound ≡ l.fn.simplex.bound;
}
