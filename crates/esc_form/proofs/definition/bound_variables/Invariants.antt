use Rattle.std.proofs.Common.{◌≡◌, ◌-◌, ◌++◌}
use Rattle.esc_form.specs.Commands.{bound_variables}
use Rattle.esc_form.proofs.definition.bound_variables.Given as goal

abbrev pub invariant-variables : goal.invariant-variables
invariant-variables l =
    l.variables ++ bound_variables (l.count - l.outside) ≡ bound_variables l.count
