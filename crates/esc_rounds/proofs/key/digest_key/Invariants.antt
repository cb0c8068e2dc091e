use Rattle.std.proofs.Common.{◌≡◌, take}
use Rattle.std.specs.List.{fold}
use Rattle.esc_term.specs.Digest.{mixed}
use Rattle.esc_rounds.specs.KeyInside.{kind_digest}
use Rattle.esc_rounds.proofs.key.digest_key.Given as goal

abbrev pub invariant-classes : goal.invariant-classes
invariant-classes l =
    l.done ≡ fold mixed (kind_digest l.key.kind) (take l.class-index l.key.classes)
