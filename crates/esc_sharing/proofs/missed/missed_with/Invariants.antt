use Rattle.esc_sharing.specs.ArithmeticInside.{AreKeys, IsPartedBehind, OnlyRows}
use Rattle.esc_sharing.proofs.missed.missed_with.Given as goal

abbrev pub invariant-others : goal.invariant-others
invariant-others l = record {
  rows : OnlyRows l.fn.simplex l.simplex;
  keys : AreKeys l.fn.graph l.fn.simplex l.numbers l.keys;
  parted : IsPartedBehind l.fn.graph l.fn.simplex l.numbers l.place l.other;
}
