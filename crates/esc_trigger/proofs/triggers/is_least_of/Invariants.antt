use Rattle.std.proofs.Common.{◌≡◌, false, take}
use Rattle.std.specs.List.{list_any}
use Rattle.esc_trigger.specs.Triggers.{is_proper_subterm}
use Rattle.esc_trigger.proofs.triggers.is_least_of.Given as goal

abbrev pub invariant-loop-part : goal.invariant-loop-part
invariant-loop-part l =
    list_any (λ s. is_proper_subterm s l.term) (take l.part-index l.terms) ≡ false
