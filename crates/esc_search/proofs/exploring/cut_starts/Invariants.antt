use Rattle.std.proofs.Common.{◌≡◌, length, take}
use Rattle.esc_search.proofs.exploring.cut_starts.Given as goal

-- the first ones are still there
abbrev pub invariant-starts : goal.invariant-starts
invariant-starts l = take l.len l.starts ≡ take l.len l.fn.starts

abbrev pub decreases-starts : goal.decreases-starts
decreases-starts l = length l.starts
