use Rattle.std.proofs.Common.{◌≡◌, ◌++◌, map, take}
use Rattle.esc_egraph.proofs.parts.make.push_uses.Given as goal

abbrev pub invariant-places : goal.invariant-places
invariant-places l = l.uses ≡ l.fn.uses ++ map (λ a. (a, l.number)) (take l.arg-index l.args)
