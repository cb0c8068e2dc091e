use Rattle.std.proofs.Common.{◌≡◌, ◌-◌, ◌^◌, min, take}
use Rattle.esc_read.specs.Tokens.{decimal_value}
use Rattle.esc_read.proofs.numeral.value_of.Given as goal

abbrev pub invariant-bytes : goal.invariant-bytes
invariant-bytes l = l.value ≡ min (decimal_value (take l.byte-index l.digits)) (2 ^ 64 - 1)
