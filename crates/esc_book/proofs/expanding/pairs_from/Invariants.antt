use Rattle.std.proofs.Common.{◌≡◌, ◌-◌}
use Rattle.esc_book.proofs.PairRuns.{run}
use Rattle.esc_book.proofs.expanding.pairs_from.Given as goal

abbrev pub invariant-pairs : goal.invariant-pairs
invariant-pairs l = l.parts ≡ run l.fn.fact l.fn.from (l.place - l.fn.from)
