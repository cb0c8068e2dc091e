use Rattle.std.proofs.Common.{◌≡◌, take}
use Rattle.esc_rounds.proofs.key.are_same.Given as goal

abbrev pub invariant-places : goal.invariant-places
invariant-places l = take l.place l.lefts ≡ take l.place l.rights
