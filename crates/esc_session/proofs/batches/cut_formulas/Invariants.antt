use Rattle.std.proofs.Common.{◌≡◌, length, take}
use Rattle.esc_session.proofs.batches.cut_formulas.Given as goal

-- the first ones are still there
abbrev pub invariant-formulas : goal.invariant-formulas
invariant-formulas l = take l.len l.formulas ≡ take l.len l.fn.formulas

abbrev pub decreases-formulas : goal.decreases-formulas
decreases-formulas l = length l.formulas
