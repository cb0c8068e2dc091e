use Rattle.std.proofs.Common.{take}
use Rattle.esc_egraph.specs.SidesInside.{AreByClass, sides_of}
use Rattle.esc_egraph.proofs.pairs.enter_sides.Given as goal

abbrev pub invariant-pairs : goal.invariant-pairs
invariant-pairs l = AreByClass l.classes.merges (sides_of (take l.pair-index l.pairs)) l.entries
