use Rattle.std.proofs.Common.{◌≡◌, false, take}
use Rattle.std.specs.List.{list_any}
use Rattle.esc_term.specs.Term.{subterms}
use Rattle.esc_cover.specs.Classes.{has}
use Rattle.esc_trigger.proofs.triggers.+has_part.Given as goal

abbrev pub invariant-some_has_part-loop-term : goal.invariant-some_has_part-loop-term
invariant-some_has_part-loop-term l =
    list_any (λ t. has (subterms t) l.part) (take l.term-index l.terms) ≡ false
