use Rattle.std.proofs.Common.{◌≡◌, length, take}
use Rattle.esc_search.proofs.levels.cut_sides.Given as goal

-- the first ones are still there
abbrev pub invariant-sides : goal.invariant-sides
invariant-sides l = take l.len l.sides ≡ take l.len l.fn.sides

abbrev pub decreases-sides : goal.decreases-sides
decreases-sides l = length l.sides
