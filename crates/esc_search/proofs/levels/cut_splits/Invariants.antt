use Rattle.std.proofs.Common.{◌≡◌, length, take}
use Rattle.esc_search.proofs.levels.cut_splits.Given as goal

-- the first ones are still there
abbrev pub invariant-splits : goal.invariant-splits
invariant-splits l = take l.len l.splits ≡ take l.len l.fn.splits

abbrev pub decreases-splits : goal.decreases-splits
decreases-splits l = length l.splits
