use Rattle.std.proofs.Common.{◌≡◌, ◌++◌}
use Rattle.esc_match.specs.SubstitutionsInside.{nodes_for}
use Rattle.esc_match.proofs.substitution.nodes_for.Given as goal

abbrev pub decreases-variables : goal.decreases-variables
decreases-variables l = l.left

abbrev pub invariant-variables : goal.invariant-variables
invariant-variables l =
    l.nodes ++ nodes_for l.left l.bound ≡ nodes_for l.count l.bound
