use Rattle.std.proofs.Common.{◌≡◌, ◌≤◌, length, take}
use Rattle.esc_index.proofs.index.Index.truncate.Given as goal

abbrev pub invariant-last : goal.invariant-last
invariant-last l = record {
  is : l.self ≡ take (length l.self) l.fn.self;
  left : l.count ≤ length l.self;
}

abbrev pub decreases-last : goal.decreases-last
decreases-last l = length l.self
