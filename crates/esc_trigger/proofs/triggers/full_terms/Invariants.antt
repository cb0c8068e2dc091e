use Rattle.std.proofs.Common.{◌≡◌, [], ◌∷◌, take}
use Rattle.std.specs.List.{filter}
use Rattle.esc_trigger.specs.Variables.{holds_all}
use Rattle.esc_trigger.proofs.triggers.full_terms.Given as goal

abbrev pub invariant-loop-term : goal.invariant-loop-term
invariant-loop-term l =
    l.full ≡ filter (λ t. holds_all l.count (t ∷ [])) (take l.term-index l.terms)
