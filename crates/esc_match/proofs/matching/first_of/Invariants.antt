use Rattle.std.proofs.Common.{◌≡◌, take}
use Rattle.esc_match.specs.SubstitutionsInside.{first_substitutions}
use Rattle.esc_match.proofs.matching.first_of.Given as goal

abbrev pub invariant-ways : goal.invariant-ways
invariant-ways g l =
    l.found.keys ≡ first_substitutions l.count (g.W.Wanted.wanted l.wanted)
    (take l.way-index l.ways)
