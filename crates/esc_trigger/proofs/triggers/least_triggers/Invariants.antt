use Rattle.std.proofs.Common.{◌≡◌, [], ◌∷◌, map, take}
use Rattle.std.specs.List.{filter}
use Rattle.esc_trigger.specs.Triggers.{is_least_of}
use Rattle.esc_trigger.proofs.triggers.least_triggers.Given as goal

abbrev pub invariant-loop-term : goal.invariant-loop-term
invariant-loop-term l =
    l.singles ≡ map (λ t. t ∷ []) (filter (is_least_of l.terms) (take l.term-index l.terms))
