use Rattle.std.proofs.Common.{◌≡◌, take}
use Rattle.esc_simplex.specs.Keys.{key}
use Rattle.esc_simplex.proofs.simplex.Simplex.key.Given as goal

-- the key by the columns so far
abbrev pub invariant-columns : goal.invariant-columns
invariant-columns l = l.key ≡ key l.self.tableau (take l.column-index l.columns) l.fn.seed l.u
