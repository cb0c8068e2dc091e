use Rattle.std.proofs.Common.{◌≡◌, true, take}
use Rattle.std.specs.List.{list_all}
use Rattle.esc_names.specs.BareNames.{is_bare_byte}
use Rattle.esc_names.proofs.bare.are_bare_bytes.Given as goal

abbrev pub invariant-bytes : goal.invariant-bytes
invariant-bytes l = list_all is_bare_byte (take l.byte-index l.text) ≡ true
