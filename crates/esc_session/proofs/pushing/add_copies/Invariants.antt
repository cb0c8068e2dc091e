use Rattle.std.proofs.Common.{◌≡◌, ◌++◌, take}
use Rattle.esc_session.proofs.pushing.add_copies.Given as goal

-- the copies so far are behind the formulas that were there
abbrev pub invariant-more : goal.invariant-more
invariant-more l = l.formulas ≡ l.fn.formulas ++ take l.formula-index l.more
