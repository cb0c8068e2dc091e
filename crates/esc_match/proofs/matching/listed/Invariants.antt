use Rattle.std.proofs.Common.{◌≡◌, ◌++◌}
use Rattle.esc_match.proofs.matching.listed.Given as goal

abbrev pub invariant-found : goal.invariant-found
invariant-found l =
    goal.iterator-found.can_next l.substitution-iterator
    × goal.iterator-found.is_finite l.substitution-iterator
    × (l.list ++ l.substitution-iterator ≡ l.fn.found.keys)
