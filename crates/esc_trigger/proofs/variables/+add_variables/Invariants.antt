use Rattle.std.proofs.Common.{◌≡◌, ◌++◌, take}
use Rattle.std.specs.List.{flat_map}
use Rattle.esc_trigger.specs.Variables.{variables_of}
use Rattle.esc_trigger.proofs.variables.+add_variables.Given as goal

abbrev pub invariant-add_all_variables-loop-term : goal.invariant-add_all_variables-loop-term
invariant-add_all_variables-loop-term l =
    l.found ≡ l.initial.found ++ flat_map variables_of (take l.term-index l.terms)
