use Rattle.std.proofs.Common.{◌≡◌, ◌++◌, length}
use Rattle.esc_book.specs.GroupInside.{rows_from}
use Rattle.esc_book.proofs.group.Group.new.Given as goal

-- the rows so far, and those of the nodes that are left
abbrev pub invariant-rows : goal.invariant-rows
invariant-rows l = l.rows.items ++ rows_from l.start l.left ≡ rows_from 0 (length l.fn.nodes)

abbrev pub decreases-rows : goal.decreases-rows
decreases-rows l = l.left
