use Rattle.std.proofs.Common.{◌≡◌, take}
use Rattle.esc_clause.specs.ClauseContext.{new_clause}
use Rattle.esc_clause.proofs.kept.Kept.new.Given as goal

abbrev pub invariant-loop-item : goal.invariant-loop-item
invariant-loop-item l = l.members.items ≡ new_clause (take l.item-index l.items)
