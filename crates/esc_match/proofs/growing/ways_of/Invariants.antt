use Rattle.std.proofs.Common.{◌≡◌, ◌∷◌, [], drop}
use Rattle.esc_match.specs.WaysInside.{new_way, trigger_ways}
use Rattle.esc_match.proofs.growing.ways_of.Given as goal

abbrev pub invariant-terms : goal.invariant-terms
invariant-terms l =
    trigger_ways l.graph (drop l.term-index l.trigger) l.ways
    ≡ trigger_ways l.graph l.trigger (new_way ∷ [])
