use Rattle.std.proofs.Common.{◌≡◌, length, take}
use Rattle.esc_simplex.proofs.simplex.shorten.Given as goal

-- the first entries are still there
abbrev pub invariant-made : goal.invariant-made
invariant-made l = take l.count l.made ≡ take l.count l.fn.made

abbrev pub decreases-made : goal.decreases-made
decreases-made l = length l.made
