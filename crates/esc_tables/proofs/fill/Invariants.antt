use Rattle.std.proofs.Common.{◌≤◌, length}
use Rattle.esc_tables.proofs.fill.Given as goal

-- what is filled stands within the room
abbrev pub invariant-pieces : goal.invariant-pieces
invariant-pieces g l = l.filled ≤ length l.room
