use Rattle.esc_sharing.specs.ArithmeticInside.{AreKeys, OnlyRows}
use Rattle.esc_sharing.proofs.MissedPairs.{ArePartedTo}
use Rattle.esc_sharing.proofs.missed.missed_pair.Given as goal

abbrev pub invariant-numbers : goal.invariant-numbers
invariant-numbers l = record {
  rows : OnlyRows l.fn.simplex l.simplex;
  keys : AreKeys l.fn.graph l.fn.simplex l.numbers l.keys.items;
  parted : ArePartedTo l.fn.graph l.fn.simplex l.numbers l.place;
}
