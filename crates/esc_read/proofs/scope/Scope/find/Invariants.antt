use Rattle.std.proofs.Common.{◌≡◌, ℕ, ◌<◌, false, get_or, []}
use Rattle.std.specs.Str.{bytes_eq}
use Rattle.esc_read.proofs.scope.Scope.find.Given as goal

abbrev pub invariant-inside : goal.invariant-inside
invariant-inside l = (k : ℕ) → k < l.inside → bytes_eq l.name (get_or l.self k []) ≡ false
