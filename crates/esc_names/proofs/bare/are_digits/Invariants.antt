use Rattle.std.proofs.Common.{◌≡◌, true, take}
use Rattle.std.specs.List.{list_all}
use Rattle.esc_names.specs.BareNames.{is_digit}
use Rattle.esc_names.proofs.bare.are_digits.Given as goal

abbrev pub invariant-bytes : goal.invariant-bytes
invariant-bytes l = list_all is_digit (take l.byte-index l.text) ≡ true
